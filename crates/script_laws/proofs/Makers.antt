-- What a name means was made under that name, and is made again before it means something after a drop.
use Rattle.std.proofs.Common.{◌≡◌, ℕ, zero, suc, ◌<◌, ◌≤◌, Bool, true, false, List, [], ◌∷◌, Option, Some, None, refl, sym, ap, ◌∙◌, arith, inl, inr}
use Rattle.std.specs.Prelude.{if◌then◌else◌}
use Rattle.std.proofs.lemmas.Bool.{false≢true, true≢false, cases_lt, le-ltb}
use Rattle.std.proofs.lemmas.Option.{same_Some}
use Rattle.std.proofs.lemmas.Slice.Eq.{bytes_eq-Decides}
use Rattle.run_data.specs.declared.command.Command.{Command}
use Rattle.run_data.specs.declared.command.Command.TheVariants as c
use Rattle.run_data.specs.Script.{commands_from, commands_of, command_at, is_name, name_made, name_dropped, maker_after, maker_from, maker}
use Rattle.script_bounds.proofs.Living.{meant_after, maker-next}

-- the command of a line makes a name
abbrev pub makes_name : Option Command → List ℕ → Bool
makes_name None name = false
makes_name (Some command) name = is_name (name_made command) name

same_name : (made : Option (List ℕ)) (a b : List ℕ) → is_name made a ≡ true → is_name made b ≡ true → a ≡ b
same_name None a b ha hb = absurd (false≢true ha)
same_name (Some x) a b ha hb = sym ((bytes_eq-Decides x a).0 ha) ∙ (bytes_eq-Decides x b).0 hb

-- a line makes one name at most
pub made-once : (command : Option Command) (a b : List ℕ) → makes_name command a ≡ true → makes_name command b ≡ true → a ≡ b
made-once None a b ha hb = absurd (false≢true ha)
made-once (Some command) a b ha hb = same_name (name_made command) a b ha hb

-- no name means anything before the first line
none_before : (k : ℕ) (lines : List (Option Command)) (name : List ℕ) → 1 ≤ k → maker_from (commands_from k lines) 1 name None ≡ None
none_before k [] name le = refl
none_before k (None ∷ lines) name le = none_before (suc k) lines name (omega arith)
none_before k (Some d ∷ lines) name le =
    ap (λ (b : Bool). maker_from (commands_from (suc k) lines) 1 name (if b then maker_after (record { line = k; command = d }) name None else None)) (le-ltb k 1 le)
    ∙ none_before (suc k) lines name (omega arith)

nothing : (script : List (Option Command)) (name : List ℕ) (at : ℕ) → maker (commands_of script) 1 name ≡ Some at → ⊥
nothing script name at e = (let none : maker (commands_of script) 1 name ≡ None = none_before 1 script name (omega arith) in let both : None ≡ Some at = sym none ∙ e in cc)

-- ---- one more line: it made the name, or the name meant the same before and the line does not drop it
data Means (o : Option Command) (line : ℕ) (name : List ℕ) (before : Option ℕ) (at : ℕ) : Type 0 where
  anew : makes_name o name ≡ true → line ≡ at → Means o line name before at
  still : ((d : Command) → o ≡ Some d → is_name (name_dropped d) name ≡ false) → before ≡ Some at → Means o line name before at

means : (o : Option Command) (line : ℕ) (name : List ℕ) (before : Option ℕ) (at : ℕ) → meant_after o line name before ≡ Some at → Means o line name before at
means None line name before at e = still (λ d h. absurd cc) e
means (Some d) line name before at e = by_tests (is_name (name_made d) name) (is_name (name_dropped d) name) refl refl e
  where
    by_tests : (made dropped : Bool) → is_name (name_made d) name ≡ made → is_name (name_dropped d) name ≡ dropped → (if made then Some line else if dropped then None else before) ≡ Some at → Means (Some d) line name before at
    by_tests true dropped m t e = anew m (same_Some line at e)
    by_tests false true m t e = absurd cc
    by_tests false false m t e = still (λ x h. sym (ap (λ (y : Command). is_name (name_dropped y) name) (same_Some d x h)) ∙ t) e

next : (script : List (Option Command)) (line : ℕ) (name : List ℕ) (at : ℕ) → maker (commands_of script) (suc (suc line)) name ≡ Some at
    → Means (command_at (commands_of script) (suc line)) (suc line) name (maker (commands_of script) (suc line) name) at
next script line name at e =
    means (command_at (commands_of script) (suc line)) (suc line) name (maker (commands_of script) (suc line) name) at (sym (maker-next script (suc line) name (omega arith)) ∙ e)

-- what a name means was made under that name
made_before : (script : List (Option Command)) (line : ℕ) (name : List ℕ) (at : ℕ) → maker (commands_of script) (suc line) name ≡ Some at → makes_name (command_at (commands_of script) at) name ≡ true
made_before script zero name at e = absurd (nothing script name at e)
made_before script (suc line) name at e =
    elim (next script line name at e) [
      | anew made same ↦ ap (λ (k : ℕ). makes_name (command_at (commands_of script) k) name) (sym same) ∙ made
      | still other before ↦ made_before script line name at before
    ]

pub maker-made : (script : List (Option Command)) (line : ℕ) (name : List ℕ) (at : ℕ) → maker (commands_of script) line name ≡ Some at → at < line → makes_name (command_at (commands_of script) at) name ≡ true
maker-made script zero name at e lt = absurd (omega arith)
maker-made script (suc line) name at e lt = made_before script line name at e

-- after a line that drops a name, a later line has made what the name means
after_drop : (script : List (Option Command)) (k line : ℕ) (name : List ℕ) (at : ℕ) → 1 ≤ k → k ≤ line → command_at (commands_of script) k ≡ Some (c.Discard name) → maker (commands_of script) (suc line) name ≡ Some at → k < at
after_drop script k zero name at some le drop e = absurd (omega arith)
after_drop script k (suc line) name at some le drop e =
    elim (cases_lt k (suc line)) [
      | inl lt ↦
          elim (next script line name at e) [
            | anew made same ↦ omega (arith, lt, same)
            | still other before ↦ after_drop script k line name at some (omega (arith, lt)) drop before
          ]
      | inr ge ↦
          (let here : k ≡ suc line = omega arith in
          let drops : command_at (commands_of script) (suc line) ≡ Some (c.Discard name) = ap (command_at (commands_of script)) (sym here) ∙ drop in
          elim (next script line name at e) [
            | anew made same ↦ absurd (false≢true (ap (λ (o : Option Command). makes_name o name) (sym drops) ∙ made))
            | still other before ↦ absurd (true≢false (sym ((bytes_eq-Decides name name).1 refl) ∙ other (c.Discard name) drops))
          ])
    ]

pub maker-after_drop : (script : List (Option Command)) (k line : ℕ) (name : List ℕ) (at : ℕ) → 1 ≤ k → k < line → command_at (commands_of script) k ≡ Some (c.Discard name) → maker (commands_of script) line name ≡ Some at → k < at
maker-after_drop script k zero name at some lt drop e = absurd (omega arith)
maker-after_drop script k (suc line) name at some lt drop e = after_drop script k line name at some (omega arith) drop e
