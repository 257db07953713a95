-- The state of the last commit of a legal journal.
use Rattle.std.proofs.Common.{◌≡◌, ℕ, ◌<◌, ◌≤◌, ◌&&◌, ◌==◌, not, Bool, true, false, if◌then◌else◌, nat_lt, nat_le, Option, None, List, [], ◌∷◌, length, refl, sym, ◌∙◌, ap, subst, arith, inl, inr}
use Rattle.std.proofs.lemmas.Bool.{cases_Bool, cases_lt, and_parts, both_ways, le-ltb, lt-leb, eqb-true}
use Rattle.rank_machine.specs.declared.slot.Tile.{Tile}
use Rattle.rank_machine.specs.declared.mark.Mark.{Mark}
use Rattle.rank_machine.specs.declared.record.Rec.{Rec}
use Rattle.rank_machine.specs.declared.record.Rec.TheVariants as r
use Rattle.rank_machine.specs.Setting.{Setting, all_below, ranks, layout, is_matrix, factored}
use Rattle.rank_machine.specs.State.{State, first_mark, opened}
use Rattle.rank_machine.specs.Effect.{has_ended, is_dropped, is_live_matrix, is_live_list, is_live, after, replay, state_after}
use Rattle.rank_machine.specs.Legal.{IsNext, IsCommit, IsLegalRec, IsLegalFrom, IsLegal}
use Rattle.rank_machine.proofs.Agree.{all_below-at}
use Rattle.recovery_laws.specs.Healed.{FallsBack, IsMarkOf, IsSensible, IsLast, AreAllResidues}
use Rattle.run_laws.specs.LastCommit.{IsRest, is_commit, rest_from, rest_after}
use Rattle.recovery_laws.specs.Recovery.{IsCommitted}
use Rattle.recovery_laws.proofs.AllResidues.{residues-after, residues-opened}
use Rattle.recovery_laws.proofs.Alike.{law-alike, commit-nothing_else, commit-alike}
use Rattle.recovery_laws.proofs.Inside.{IsInside, opened-inside, after-inside}
use Rattle.recovery_laws.proofs.FallingBack.{goes-on}
use Rattle.recovery_laws.proofs.MarkLaws.{next-mark, first-mark}

cut_none : (b : Bool) (t : Option Tile) → t ≡ None → (if b then t else None) ≡ None
cut_none true t e = e
cut_none false t e = refl

-- a commit begins anew
pub begins : (s : Setting) (st now : State) (mark : Mark) (healed : Bool) → FallsBack st now → FallsBack (after s now (r.Commit mark healed)) (after s now (r.Commit mark healed))
begins s st now mark healed back =
    record {
      kept = λ a x h. refl;
      gone = λ a x h. absurd (cc);
      dead = λ a x h. (cut_none (is_live s mark a x) (now.tiles a x) (back.dead a x h).0, refl);
      mark = refl;
      committed = refl;
    }

opens : (s : Setting) → FallsBack (opened s) (opened s)
opens s = record { kept = λ a x h. refl; gone = λ a x h. absurd (cc); dead = λ a x h. (refl, refl); mark = refl; committed = refl }

-- nothing is live under the first mark
no_ended : (line : ℕ) → has_ended first_mark line ≡ false
no_ended line = (let a : nat_lt line 0 ≡ false = le-ltb line 0 (omega arith) in rw a (none (line == 0)))
  where
    none : (b : Bool) → b && false ≡ false
    none true = refl
    none false = refl

no_matrices : (s : Setting) (line : ℕ) → is_live_matrix s first_mark line ≡ true → ⊥
no_matrices s line live =
    both_ways (has_ended first_mark line) (no_ended line) (and_parts (is_matrix s line) (has_ended first_mark line) (and_parts (is_matrix s line && has_ended first_mark line) (not (is_dropped s first_mark line)) live).0).1

less : (a b : ℕ) → nat_lt a b ≡ true → a < b
less a b e = elim (cases_lt a b) [ inl below ↦ below | inr above ↦ absurd (both_ways (nat_lt a b) (le-ltb a b above) e) ]

at_most : (a b : ℕ) → nat_le a b ≡ true → a ≤ b
at_most a b e = elim (cases_lt b a) [ inl below ↦ absurd (both_ways (nat_le a b) (lt-leb a b below) e) | inr above ↦ above ]

no_lists : (s : Setting) (line : ℕ) → IsSensible s → is_live_list s first_mark line ≡ true → ⊥
no_lists s line sensible live =
    let p = and_parts (nat_lt 0 (factored s line)) (nat_le line 0) (and_parts (nat_lt 0 (factored s line) && nat_le line 0) (not (is_dropped s first_mark line)) live).0 in
    let zero_line : line ≤ 0 = at_most line 0 p.1 in
    let is : line ≡ 0 = omega arith in
    let some : 0 < factored s line = less 0 (factored s line) p.0 in
    let none : factored s line ≡ 0 = ap (factored s) is ∙ sensible.no_list in omega arith

first : (s : Setting) → IsSensible s → IsLast s (opened s)
first s sensible =
    record {
      rest = record {
        live = λ rank. refl;
        lost = λ rank. refl;
        saved = λ rank slot. refl;
        fresh = λ rank slot. refl;
        links = λ from to. refl;
        taken = refl;
        law = record { matrices = λ line live. absurd (no_matrices s line live); lists = λ line live. absurd (no_lists s line sensible live) };
        nothing_else = λ rank slot h. refl;
      };
      mark = first-mark s;
      residues = record { at = (residues-opened s.modulus s).tiles };
    }

mark_after : (s : Setting) (now : State) (mark : Mark) (healed : Bool) → IsMarkOf s now.mark → IsNext s now mark healed → IsMarkOf s mark
mark_after s now mark true fit next = subst (IsMarkOf s) (sym next) fit
mark_after s now mark false fit next = next-mark s now.mark mark fit next

-- ---- what a commit leaves is at rest
none_there : (ts : List Tile) → (length ts == 0) ≡ true → ts ≡ []
none_there [] e = refl
none_there (t ∷ ts) e = (let some : length (t ∷ ts) ≡ 0 = eqb-true (length (t ∷ ts)) 0 e in absurd (omega arith))

all_live : (s : Setting) (now : State) (mark : Mark) (healed : Bool) → IsInside s now → IsCommit s now mark healed → (rank : ℕ) → now.live rank ≡ nat_lt rank (ranks s)
all_live s now mark healed inside legal rank =
    elim (cases_Bool (nat_lt rank (ranks s))) [
      | inl within ↦ all_below-at (ranks s) now.live rank legal.live (less rank (ranks s) within) ∙ sym within
      | inr beyond ↦ inside.live rank beyond ∙ sym beyond
    ]

all_empty : (s : Setting) (now : State) (mark : Mark) (healed : Bool) → IsInside s now → IsCommit s now mark healed → (from to : ℕ) → now.links from to ≡ []
all_empty s now mark healed inside legal from to =
    elim (cases_Bool (nat_lt from (ranks s) && nat_lt to (ranks s))) [
      | inl within ↦
          (let p = and_parts (nat_lt from (ranks s)) (nat_lt to (ranks s)) within in
          none_there (now.links from to)
          (all_below-at (ranks s) (λ b. length (now.links from b) == 0) to (all_below-at (ranks s) (λ a. all_below (ranks s) (λ b. length (now.links a b) == 0)) from legal.empty (less from (ranks s) p.0)) (less to (ranks s) p.1)))
      | inr beyond ↦ inside.links from to beyond
    ]

at_rest : (s : Setting) (now : State) (mark : Mark) (healed : Bool) → IsSensible s → IsInside s now → IsCommit s now mark healed → IsRest s (after s now (r.Commit mark healed))
at_rest s now mark healed sensible inside legal =
    record {
      live = all_live s now mark healed inside legal;
      lost = λ rank. refl;
      saved = λ rank slot. refl;
      fresh = λ rank slot. refl;
      links = all_empty s now mark healed inside legal;
      taken = refl;
      law = law-alike s now (after s now (r.Commit mark healed)) mark sensible (commit-alike s now mark healed) legal.law;
      nothing_else = commit-nothing_else s now mark healed;
    }

step : (s : Setting) (sensible : IsSensible s) (st now : State) (x : Rec) → IsLegalRec s now x → IsInside s now → IsLast s st → FallsBack st now → AreAllResidues s.modulus now
    → IsLast s (if is_commit x then after s now x else st) × FallsBack (if is_commit x then after s now x else st) (after s now x)
step s sensible st now (r.Commit mark healed) legal inside last back all = (
  record {
    rest = at_rest s now mark healed sensible inside legal;
    mark = mark_after s now mark healed (subst (IsMarkOf s) (sym back.mark) last.mark) legal.next;
    residues = record { at = (residues-after s sensible now (r.Commit mark healed) legal all).tiles };
  },
  begins s st now mark healed back,
)
step s sensible st now x legal inside last back all = (last, goes-on st now s x refl legal back)

pub from-last : (s : Setting) (sensible : IsSensible s) (st now : State) (xs : List Rec) → IsLegalFrom s now xs → IsInside s now → IsLast s st → FallsBack st now → AreAllResidues s.modulus now
    → IsLast s (rest_from s st now xs) × FallsBack (rest_from s st now xs) (replay s now xs)
from-last s sensible st now [] legal inside last back all = (last, back)
from-last s sensible st now (x ∷ xs) legal inside last back all =
    let next = step s sensible st now x legal.0 inside last back all in
    from-last s sensible (if is_commit x then after s now x else st) (after s now x) xs legal.1 (after-inside s now inside x legal.0) next.0 next.1 (residues-after s sensible now x legal.0 all)

-- of a legal journal: the last commit's state is at rest and its mark fits, and ranks fall back to it
pub of-journal : (s : Setting) (journal : List Rec) → IsSensible s → IsLegal s journal → IsLast s (rest_after s journal) × FallsBack (rest_after s journal) (state_after s journal)
of-journal s journal sensible legal = from-last s sensible (opened s) (opened s) journal legal (opened-inside s) (first s sensible) (opens s) (residues-opened s.modulus s)

-- what the laws on lost strips ask
pub committed : (s : Setting) (st : State) (line : ℕ) → IsSensible s → IsLast s st → is_live_matrix s st.mark line ≡ true → IsCommitted s st st.mark line (layout s line)
committed s st line sensible last live = record { some_residue = sensible.some_residue; residues = last.residues; desc = sensible.descs line; law = last.rest.law.matrices line live }
