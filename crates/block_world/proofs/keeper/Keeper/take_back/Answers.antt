use Rattle.std.proofs.Common.{◌≡◌, ◌+◌, ◌-◌, ◌<◌, ◌++◌, ◌∷◌, [], ℕ, List, Option, Some, None, arith, length, take, ap, sym, subst, ◌∙◌, false}
use Rattle.std.specs.Prelude.{vec_len}
use Rattle.std.specs.Option.{MatchOption, option_to_list}
use Rattle.std.proofs.Math.Seq.{take-append_seam}
use Rattle.std.proofs.lemmas.List.{length-append}
use Rattle.rank_machine.specs.declared.record.Rec.{Rec}
use Rattle.run_laws.specs.Due.{numbered, has_fallen, is_due_in}
use Rattle.block_world.specs.Log.{Log}
use Rattle.block_world.specs.Kept.{next_from, left_from, IsNextAt}
use Rattle.block_world.proofs.Keeping.{numbered-last, steps-push, left-push, next-back}
use Rattle.block_world.proofs.keeper.Keeper.take_back.Goals as goal

-- a list with a last element, which is taken off
record Parted (new old : List Rec) : Type 0 where
  pub last : Rec
  pub is : old ≡ new ++ last ∷ []

parted : (r : Option Rec) (new old : List Rec) (m n : ℕ) → 0 < n → MatchOption r ((n ≡ 0) × (m ≡ 0)) (λ x. m + 1 ≡ n) → old ≡ new ++ option_to_list r → Parted new old
parted None new old m n lt cases h = let e = cases.0 in absurd (omega (arith, lt, e))
parted (Some x) new old m n lt cases h = record { last = x; is = h }

one_less : (r : Option Rec) (m n : ℕ) → 0 < n → MatchOption r ((n ≡ 0) × (m ≡ 0)) (λ x. m + 1 ≡ n) → m + 1 ≡ n
one_less None m n lt cases = let e = cases.0 in absurd (omega (arith, lt, e))
one_less (Some x) m n lt cases = cases

pub invariant_of-self : goal.invariant_of-self
invariant_of-self c =
    let k = c.self.invariant in
    let p = c.pop.ensures in
    let js = c.pop.new.self.items in
    let old = c.self.inside.journal.items in
    let ls = c.self.inside.losses.items in
    let same = ap (λ (l : Log). length l.journal) c.self.view_is in
    let room = ap (λ (l : Log). l.room) c.self.view_is in
    let lent = c.requires.room in
    let some : 0 < vec_len c.self.inside.journal = (let s = c.requires.some in let l = k.len_is in omega (arith, s, same, l)) in
    let part = parted c.pop.result js old (vec_len c.pop.new.self) (vec_len c.self.inside.journal) some p.cases p.items in
    let one = one_less c.pop.result (vec_len c.pop.new.self) (vec_len c.self.inside.journal) some p.cases in
    let x = part.last in
    let open_still = numbered-last js x (ap has_fallen (sym part.is) ∙ ap (λ (l : Log). has_fallen l.journal) c.self.view_is ∙ c.requires.numbered) in
    let len = ap length part.is ∙ length-append js (x ∷ []) in
    let before = k.len_is in
    let shorter : length old - 1 ≡ length js = omega (arith, len) in
    let popped : take (length old - 1) old ≡ js = (λ i. take (shorter i) (part.is i)) ∙ take-append_seam js (x ∷ []) in
    let due : is_due_in ls js ≡ false = ap (is_due_in ls) (sym popped) ∙ ap (λ (l : Log). is_due_in l.losses (take (length l.journal - 1) l.journal)) c.self.view_is ∙ c.requires.due in
    let steps = ap numbered part.is ∙ steps-push js x open_still in
    let counted = k.steps_are in
    let less = c.saturating_sub-self-inside.ensures in
    let left = ap (λ (l : List Rec). left_from ls (next_from l)) part.is ∙ left-push ls js x open_still due in
    let has = k.has_room in
    let all = k.all_fit in
    let few = k.few in
    let capacity = p.capacity in
    record {
      len_is = omega (arith, len, one, before);
      steps_are = omega (arith, steps, counted, less);
      has_room = omega (arith, left, has, one, room, lent, capacity);
      all_fit = omega (arith, all, capacity);
      few = omega (arith, few, steps, counted, less, room, lent);
      next_is = next-back ls js x c.self.inside.next open_still due (subst (λ (l : List Rec). IsNextAt ls (next_from l) c.self.inside.next) part.is k.next_is);
    }
