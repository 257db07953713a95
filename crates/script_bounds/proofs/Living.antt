-- What lives around the lines of a script, and what it takes to bring it back.
use Rattle.std.proofs.Common.{◌≡◌, ℕ, suc, ◌+◌, ◌-◌, ◌*◌, ◌^◌, ◌<◌, ◌≤◌, max, Bool, true, false, cond, eqb, ltb, List, [], ◌∷◌, length, get_or, Option, Some, None, refl, sym, ap, ◌∙◌, arith, inl, inr, ◌⊎◌}
use Rattle.std.specs.Prelude.{if◌then◌else◌, ◌||◌}
use Rattle.std.specs.List.{sum_by, slice_get}
use Rattle.std.specs.Str.{bytes_eq}
use Rattle.std.proofs.lemmas.Bool.{cases_lt, eqb-true, false≢true}
use Rattle.std.proofs.lemmas.Bool.Decides.{nat_tests}
use Rattle.std.proofs.lemmas.Option.{same_Some, slice_get_read}
use Rattle.std.proofs.lemmas.Slice.Eq.{bytes_eq-Decides}
use Rattle.std.proofs.lemmas.List.Sums.{sum_by-cons}
use Rattle.run_data.specs.declared.command.Command.{Command}
use Rattle.run_data.specs.declared.command.Command.TheVariants as c
use Rattle.run_data.specs.Script.{Numbered, commands_from, commands_of, command_at, is_name, name_made, name_dropped, maker_after, maker_from, maker}
use Rattle.run_data.proofs.Lines.{said, command_at-before, command_at-commands_from}
use Rattle.script_rules.specs.Rules.{command_on}
use Rattle.script_bounds.specs.Bounds.{recovery_made, recovery_on, recovery_dropped, is_line, still_means, lives, live_recovery, greatest}
use Rattle.script_rules.proofs.Before.{maker-lt}
use Rattle.script_bounds.proofs.Limits.{OnLine-from_command_at, command_at-from_OnLine}
use Rattle.script_bounds.specs.Accepted.{KeepsRules}
use Rattle.script_bounds.proofs.Sized.{made_name_free}
use Rattle.script_bounds.proofs.Summing.{IsGreatest, greatest_start, greatest_some, greatest_none}

-- ---- the command on a line

eqb_same : (n : ℕ) → eqb n n ≡ true
eqb_same n = grind (arith, nat_tests)

eqb_far : (n m : ℕ) → n < m → eqb n m ≡ false
eqb_far n m lt = grind (arith, nat_tests)

eqb_past : (n m : ℕ) → m < n → eqb n m ≡ false
eqb_past n m lt = grind (arith, nat_tests)

ltb_yes : (n m : ℕ) → n < m → ltb n m ≡ true
ltb_yes n m lt = grind (arith, nat_tests)

ltb_no : (n m : ℕ) → m ≤ n → ltb n m ≡ false
ltb_no n m le = grind (arith, nat_tests)

at_first : (k : ℕ) (d : Command) (lines : List (Option Command)) → command_at (commands_from k (Some d ∷ lines)) k ≡ Some d
at_first k d lines = rw (eqb_same k) refl

at_later : (k : ℕ) (o : Option Command) (lines : List (Option Command)) (line : ℕ) → k < line → command_at (commands_from k (o ∷ lines)) line ≡ command_at (commands_from (suc k) lines) line
at_later k None lines line lt = refl
at_later k (Some d) lines line lt = rw (eqb_far k line lt) refl

-- ---- sums over the commands of a script

-- two sums are equal where their terms are, at the commands of the lines
same_sums : (f g : Numbered → ℕ) (k : ℕ) (lines : List (Option Command)) →
    ((n : Numbered) → k ≤ n.line → command_at (commands_from k lines) n.line ≡ Some n.command → f n ≡ g n) → sum_by f (commands_from k lines) ≡ sum_by g (commands_from k lines)
same_sums f g k [] h = refl
same_sums f g k (None ∷ lines) h = same_sums f g (suc k) lines (λ n le e. h n (omega arith) (at_later k None lines n.line (omega arith) ∙ e))
same_sums f g k (Some d ∷ lines) h =
    let n : Numbered = record { line = k; command = d } in
    let first : f n ≡ g n = h n (omega arith) (at_first k d lines) in
    let others = same_sums f g (suc k) lines (λ n le e. h n (omega arith) (at_later k (Some d) lines n.line (omega arith) ∙ e)) in
    sum_by-cons f n (commands_from (suc k) lines) ∙ ap (λ x. x + sum_by f (commands_from (suc k) lines)) first ∙ ap (λ x. g n + x) others ∙ sym (sum_by-cons g n (commands_from (suc k) lines))

sum_both : (f g : Numbered → ℕ) (ns : List Numbered) → sum_by (λ n. f n + g n) ns ≡ sum_by f ns + sum_by g ns
sum_both f g [] = refl
sum_both f g (n ∷ ns) =
    omega (arith, sum_by-cons (λ n. f n + g n) n ns, sum_both f g ns, sum_by-cons f n ns, sum_by-cons g n ns)

-- what a command has on its line, if there is one
abbrev pub on : (Numbered → ℕ) → ℕ → Option Command → ℕ
on f line None = 0
on f line (Some d) = f (record { line = line; command = d })

-- a sum over the commands of one line alone
pub sum_at : (f : Numbered → ℕ) (line k : ℕ) (lines : List (Option Command)) → sum_by (λ n. if eqb n.line line then f n else 0) (commands_from k lines) ≡ on f line (command_at (commands_from k lines) line)
sum_at f line k [] = refl
sum_at f line k (None ∷ lines) = sum_at f line (suc k) lines
sum_at f line k (Some d ∷ lines) =
    let g : Numbered → ℕ = λ n. if eqb n.line line then f n else 0 in
    let n : Numbered = record { line = k; command = d } in
    let others = sum_at f line (suc k) lines in
    sum_by-cons g n (commands_from (suc k) lines) ∙ ap (λ x. g n + x) others ∙ by_test (eqb k line) refl
  where
    by_test : (t : Bool) → eqb k line ≡ t → (if eqb k line then f (record { line = k; command = d }) else 0) + on f line (command_at (commands_from (suc k) lines) line) ≡
        on f line (if eqb k line then Some d else command_at (commands_from (suc k) lines) line)
    by_test true t =
        let same : k ≡ line = eqb-true k line t in
        let none = command_at-before (suc k) lines line (omega arith) in
        rw (t, none) (omega (arith, ap (λ l. f (record { line = l; command = d })) same))
    by_test false t = rw t (omega arith)

-- ---- what names mean, line by line

late : (k : ℕ) (lines : List (Option Command)) (line : ℕ) (name : List ℕ) (before : Option ℕ) → line ≤ k → maker_from (commands_from k lines) line name before ≡ before
late k [] line name before le = refl
late k (None ∷ lines) line name before le = late (suc k) lines line name before (omega arith)
late k (Some d ∷ lines) line name before le =
    ap (λ t. maker_from (commands_from (suc k) lines) line name (cond t (maker_after (record { line = k; command = d }) name before) before)) (ltb_no k line le)
    ∙ late (suc k) lines line name before (omega arith)

-- what a name means after a line
abbrev pub meant_after : Option Command → ℕ → List ℕ → Option ℕ → Option ℕ
meant_after None line name before = before
meant_after (Some d) line name before = maker_after (record { line = line; command = d }) name before

early : (k : ℕ) (d : Command) (lines : List (Option Command)) (line : ℕ) (name : List ℕ) (before : Option ℕ) → k < line →
    maker_from (commands_from k (Some d ∷ lines)) line name before ≡ maker_from (commands_from (suc k) lines) line name (maker_after (record { line = k; command = d }) name before)
early k d lines line name before lt = ap (λ t. maker_from (commands_from (suc k) lines) line name (cond t (maker_after (record { line = k; command = d }) name before) before)) (ltb_yes k line lt)

next_same : (o : Option Command) (k : ℕ) (lines : List (Option Command)) (line : ℕ) (name : List ℕ) (before : Option ℕ) → k ≡ line →
    maker_from (commands_from k (o ∷ lines)) (suc line) name before ≡ meant_after (command_at (commands_from k (o ∷ lines)) line) line name (maker_from (commands_from k (o ∷ lines)) line name before)
next_same None k lines line name before e =
    let none = command_at-before (suc k) lines line (omega arith) in
    rw none (late (suc k) lines (suc line) name before (omega arith) ∙ sym (late (suc k) lines line name before (omega arith)))
next_same (Some d) k lines line name before e =
    let ns : List Numbered = commands_from k (Some d ∷ lines) in
    let here : command_at ns line ≡ Some d = ap (command_at ns) (sym e) ∙ at_first k d lines in
    let after : Option ℕ = maker_after (record { line = k; command = d }) name before in
    early k d lines (suc line) name before (omega arith) ∙ late (suc k) lines (suc line) name after (omega arith) ∙ ap (λ l. maker_after (record { line = l; command = d }) name before) e
    ∙ sym (ap (λ o. meant_after o line name (maker_from ns line name before)) here ∙ ap (maker_after (record { line = line; command = d }) name) (late k (Some d ∷ lines) line name before (omega arith)))

next_from : (k : ℕ) (lines : List (Option Command)) (line : ℕ) (name : List ℕ) (before : Option ℕ) → k ≤ line →
    maker_from (commands_from k lines) (suc line) name before ≡ meant_after (command_at (commands_from k lines) line) line name (maker_from (commands_from k lines) line name before)
next_from k [] line name before le = refl
next_from k (None ∷ lines) line name before le = elim (cases_lt k line) [
  | inl lt ↦ next_from (suc k) lines line name before (omega arith)
  | inr ge ↦ next_same None k lines line name before (omega arith)
]
next_from k (Some d ∷ lines) line name before le = elim (cases_lt k line) [
  | inl lt ↦
      let after : Option ℕ = maker_after (record { line = k; command = d }) name before in
      early k d lines (suc line) name before (omega arith) ∙ next_from (suc k) lines line name after (omega arith)
      ∙ sym (ap (λ o. meant_after o line name (maker_from (commands_from k (Some d ∷ lines)) line name before)) (at_later k (Some d) lines line lt)
      ∙ ap (meant_after (command_at (commands_from (suc k) lines) line) line name) (early k d lines line name before lt))
  | inr ge ↦ next_same (Some d) k lines line name before (omega arith)
]

pub maker-next : (script : List (Option Command)) (line : ℕ) (name : List ℕ) → 1 ≤ line → maker (commands_of script) (suc line) name ≡ meant_after (command_at (commands_of script) line) line name (maker (commands_of script) line name)
maker-next script line name le = next_from 1 script line name None le

-- what a name means was made under that name
record IsMade (cs : List Numbered) (at : ℕ) (name : List ℕ) : Type 0 where
  command : Command
  there : command_at cs at ≡ Some command
  named : is_name (name_made command) name ≡ true

made_here : (d : Command) (k : ℕ) (name : List ℕ) (before : Option ℕ) (at : ℕ) → maker_after (record { line = k; command = d }) name before ≡ Some at →
    ((k ≡ at) × (is_name (name_made d) name ≡ true)) ⊎ (before ≡ Some at)
made_here d k name before at = by_test (is_name (name_made d) name) (is_name (name_dropped d) name) refl
  where
    by_test : (made dropped : Bool) → is_name (name_made d) name ≡ made → (if made then Some k else if dropped then None else before) ≡ Some at → ((k ≡ at) × (is_name (name_made d) name ≡ true)) ⊎ (before ≡ Some at)
    by_test true dropped t e = inl (same_Some k at e, t)
    by_test false true t e = absurd cc
    by_test false false t e = inr e

made_from : (k : ℕ) (lines : List (Option Command)) (line : ℕ) (name : List ℕ) (before : Option ℕ) (at : ℕ) → maker_from (commands_from k lines) line name before ≡ Some at →
    ((k ≤ at) × IsMade (commands_from k lines) at name) ⊎ (before ≡ Some at)
made_from k [] line name before at e = inr e
made_from k (None ∷ lines) line name before at e = elim (made_from (suc k) lines line name before at e) [
  | inl m ↦ inl (omega (arith, m.0), record { command = m.1.command; there = at_later k None lines at (omega (arith, m.0)) ∙ m.1.there; named = m.1.named })
  | inr b ↦ inr b
]
made_from k (Some d ∷ lines) line name before at e =
    elim (made_from (suc k) lines line name (cond (ltb k line) (maker_after (record { line = k; command = d }) name before) before) at e) [
      | inl m ↦ inl (omega (arith, m.0), record { command = m.1.command; there = at_later k (Some d) lines at (omega (arith, m.0)) ∙ m.1.there; named = m.1.named })
      | inr b ↦ by_test (ltb k line) b
    ]
  where
    by_test : (t : Bool) → cond t (maker_after (record { line = k; command = d }) name before) before ≡ Some at → ((k ≤ at) × IsMade (commands_from k (Some d ∷ lines)) at name) ⊎ (before ≡ Some at)
    by_test false b = inr b
    by_test true b = elim (made_here d k name before at b) [
      | inl h ↦
          let there : command_at (commands_from k (Some d ∷ lines)) at ≡ Some d = ap (command_at (commands_from k (Some d ∷ lines))) (sym h.0) ∙ at_first k d lines in
          inl (omega (arith, h.0), record { command = d; there = there; named = h.1 })
      | inr x ↦ inr x
    ]

maker-made : (script : List (Option Command)) (line : ℕ) (name : List ℕ) (at : ℕ) → maker (commands_of script) line name ≡ Some at → IsMade (commands_of script) at name
maker-made script line name at e = elim (made_from 1 script line name None at e) [
  | inl m ↦ m.1
  | inr b ↦ absurd cc
]

-- ---- what lives

not_yet : (cs : List Numbered) (line : ℕ) (name : Option (List ℕ)) (at : ℕ) → line ≤ at → still_means cs line name at ≡ false
not_yet cs line None at le = refl
not_yet cs line (Some name) at le = by_maker (maker cs line name) refl
  where
    by_maker : (o : Option ℕ) → maker cs line name ≡ o → is_line o at ≡ false
    by_maker None e = refl
    by_maker (Some l) e = eqb_far l at (omega (arith, maker-lt cs line name l e))

-- the records that bring back what the names mean as seen from a line
still : List Numbered → ℕ → Numbered → ℕ
still cs line n = if still_means cs line (name_made n.command) n.line then recovery_made cs n.line n.command else 0

pub live_before : List Numbered → ℕ → ℕ
live_before cs line = sum_by (still cs line) cs

-- those of a command
made : List Numbered → Numbered → ℕ
made cs n = recovery_made cs n.line n.command

-- those of the command on a line, if there is one
pub made_on : List Numbered → ℕ → ℕ
made_on cs line = on (made cs) line (command_at cs line)

-- around a line lives what the names mean before it, and what the line makes
pub live-line : (script : List (Option Command)) (line : ℕ) → live_recovery (commands_of script) line ≡ live_before (commands_of script) line + made_on (commands_of script) line
unfolding live_before made_on made still
live-line script line =
    let cs = commands_of script in
    same_sums (λ n. if lives cs line n then made cs n else 0) (λ n. still cs line n + (if eqb n.line line then made cs n else 0)) 1 script (λ n le e. by_test n (eqb n.line line) refl)
    ∙ sum_both (still cs line) (λ n. if eqb n.line line then made cs n else 0) cs
    ∙ ap (λ x. live_before cs line + x) (sum_at (made cs) line 1 script)
  where
    by_test : (n : Numbered) (t : Bool) → eqb n.line line ≡ t →
        (if eqb n.line line || still_means (commands_of script) line (name_made n.command) n.line then made (commands_of script) n else 0) ≡
        still (commands_of script) line n + (if eqb n.line line then made (commands_of script) n else 0)
    by_test n true t =
        let no = not_yet (commands_of script) line (name_made n.command) n.line (omega (arith, eqb-true n.line line t)) in
        rw (t, no) (omega arith)
    by_test n false t = rw t (omega arith)

-- ---- what a line changes

-- the line that made what a command drops
abbrev dropped_at : List Numbered → ℕ → Option (List ℕ) → Option ℕ
dropped_at cs line None = None
dropped_at cs line (Some name) = maker cs line name

abbrev is_dropped : Option ℕ → ℕ → Bool
is_dropped None line = false
is_dropped (Some at) line = eqb line at

eqb_turned : (n m : ℕ) → eqb n m ≡ eqb m n
eqb_turned n m = grind (arith, nat_tests)

-- what lives after a line and what it drops are what lived before it and what it makes
balance : (makes drops dropped here : Bool) (before : Option ℕ) (line at r : ℕ) → eqb at line ≡ here → (makes ≡ true → (before ≡ None) × (dropped ≡ false)) → (makes ≡ false → here ≡ false) →
    (makes ≡ false → drops ≡ true → dropped ≡ is_line before at) → (makes ≡ false → drops ≡ false → dropped ≡ false) →
    (if is_line (if makes then Some line else if drops then None else before) at then r else 0) + (if dropped then r else 0) ≡ (if is_line before at then r else 0) + (if here then r else 0)
balance true drops dropped here before line at r h made other drop keep =
    let m = made refl in
    let t : eqb line at ≡ here = eqb_turned line at ∙ h in
    rw (t, m.0, m.1) (omega arith)
balance false true dropped here before line at r h made other drop keep =
    let o = other refl in
    let d = drop refl refl in
    rw (o, d) (omega arith)
balance false false dropped here before line at r h made other drop keep =
    let o = other refl in
    let d = keep refl refl in
    rw (o, d) refl

same_name : (a b : List ℕ) → bytes_eq a b ≡ true → a ≡ b
same_name a b t = (bytes_eq-Decides a b).0 t

name_same : (a : List ℕ) → bytes_eq a a ≡ true
name_same a = (bytes_eq-Decides a a).1 refl

named_some : (o : Option (List ℕ)) (name : List ℕ) → is_name o name ≡ true → o ≡ Some name
named_some None name t = absurd (false≢true t)
named_some (Some x) name t = ap (λ y. Some y) (same_name x name t)

makes_or_drops : (d : Command) (name : List ℕ) → is_name (name_made d) name ≡ true → name_dropped d ≡ None
makes_or_drops (c.Discard x) name t = absurd (false≢true t)
makes_or_drops d name t = refl

made_zero : (cs : List Numbered) (line : ℕ) (d : Command) → name_made d ≡ None → recovery_made cs line d ≡ 0
made_zero cs line (c.Matrix name grid m n mb nb rsrc csrc file) e = absurd cc
made_zero cs line (c.Pgetrf m n a ia ja v) e = absurd cc
made_zero cs line d e = refl

if_zero : (b : Bool) (r : ℕ) → r ≡ 0 → (if b then r else 0) ≡ 0
if_zero true r e = e
if_zero false r e = refl

turned : (o : Option ℕ) (at : ℕ) → is_dropped o at ≡ is_line o at
turned None at = refl
turned (Some l) at = eqb_turned at l

-- a member of the commands of a script that is not dropped
not_dropped : (script : List (Option Command)) (line : ℕ) (n : Numbered) (name : List ℕ) (x : Option (List ℕ)) → command_at (commands_of script) n.line ≡ Some n.command → name_made n.command ≡ Some name →
    is_name x name ≡ false → is_dropped (dropped_at (commands_of script) line x) n.line ≡ false
not_dropped script line n name None here e f = refl
not_dropped script line n name (Some x) here e f = by_maker (maker (commands_of script) line x) refl
  where
    by_test : (at : ℕ) (t : Bool) → maker (commands_of script) line x ≡ Some at → eqb n.line at ≡ t → t ≡ false
    by_test at false m t = refl
    by_test at true m t =
        let same : n.line ≡ at = eqb-true n.line at t in
        let was = maker-made script line x at m in
        let it : was.command ≡ n.command = same_Some was.command n.command (sym was.there ∙ ap (command_at (commands_of script)) (sym same) ∙ here) in
        let named : is_name (Some name) x ≡ true = ap (λ o. is_name o x) (sym e) ∙ ap (λ d. is_name (name_made d) x) (sym it) ∙ was.named in
        let turn : bytes_eq x name ≡ true = ap (bytes_eq x) (same_name name x named) ∙ name_same x in
        absurd (false≢true (sym f ∙ turn))

    by_maker : (o : Option ℕ) → maker (commands_of script) line x ≡ o → is_dropped o n.line ≡ false
    by_maker None m = refl
    by_maker (Some at) m = by_test at (eqb n.line at) m refl

not_here : (script : List (Option Command)) (line : ℕ) (d : Command) (n : Numbered) (name : List ℕ) (t : Bool) → command_at (commands_of script) line ≡ Some d → command_at (commands_of script) n.line ≡ Some n.command →
    name_made n.command ≡ Some name → eqb n.line line ≡ t → is_name (name_made d) name ≡ false → t ≡ false
not_here script line d n name false there here e t f = refl
not_here script line d n name true there here e t f =
    let same : n.line ≡ line = eqb-true n.line line t in
    let it : n.command ≡ d = same_Some n.command d (sym here ∙ ap (command_at (commands_of script)) same ∙ there) in
    let named : is_name (name_made d) name ≡ true = ap (λ x. is_name (name_made x) name) (sym it) ∙ ap (λ o. is_name o name) e ∙ name_same name in
    absurd (false≢true (sym f ∙ named))

-- what a line changes at one command
changes : (script : List (Option Command)) (line : ℕ) (d : Command) (n : Numbered) → 1 ≤ line → command_at (commands_of script) line ≡ Some d → command_at (commands_of script) n.line ≡ Some n.command →
    ((name : List ℕ) → name_made d ≡ Some name → maker (commands_of script) line name ≡ None) →
    still (commands_of script) (suc line) n + (if is_dropped (dropped_at (commands_of script) line (name_dropped d)) n.line then made (commands_of script) n else 0) ≡
    still (commands_of script) line n + (if eqb n.line line then made (commands_of script) n else 0)
unfolding still made
changes script line d n le there here free = by_name (name_made n.command) refl
  where
    by_name : (o : Option (List ℕ)) → name_made n.command ≡ o →
        (if still_means (commands_of script) (suc line) o n.line then recovery_made (commands_of script) n.line n.command else 0)
        + (if is_dropped (dropped_at (commands_of script) line (name_dropped d)) n.line then recovery_made (commands_of script) n.line n.command else 0) ≡
        (if still_means (commands_of script) line o n.line then recovery_made (commands_of script) n.line n.command else 0) + (if eqb n.line line then recovery_made (commands_of script) n.line n.command else 0)
    by_name None e =
        let zero = made_zero (commands_of script) n.line n.command e in
        omega (
          arith,
          if_zero (is_dropped (dropped_at (commands_of script) line (name_dropped d)) n.line) (recovery_made (commands_of script) n.line n.command) zero,
          if_zero (eqb n.line line) (recovery_made (commands_of script) n.line n.command) zero,
        )
    by_name (Some name) e =
        let cs = commands_of script in
        let more : ℕ = if is_dropped (dropped_at cs line (name_dropped d)) n.line then recovery_made cs n.line n.command else 0 in
        let after = maker-next script line name le ∙ ap (λ o. meant_after o line name (maker cs line name)) there in
        ap (λ o. (if is_line o n.line then recovery_made cs n.line n.command else 0) + more) after
        ∙ balance (is_name (name_made d) name) (is_name (name_dropped d) name) (is_dropped (dropped_at cs line (name_dropped d)) n.line) (eqb n.line line) (maker cs line name) line n.line
        (recovery_made cs n.line n.command) refl
        (λ t. (free name (named_some (name_made d) name t), ap (λ o. is_dropped (dropped_at cs line o) n.line) (makes_or_drops d name t)))
        (λ t. not_here script line d n name (eqb n.line line) there here e refl t)
        (λ t u. ap (λ o. is_dropped (dropped_at cs line o) n.line) (named_some (name_dropped d) name u) ∙ turned (maker cs line name) n.line)
        (λ t u. not_dropped script line n name (name_dropped d) here e u)

sum_zero : (ns : List Numbered) → sum_by (λ n. 0) ns ≡ 0
sum_zero [] = refl
sum_zero (n ∷ ns) = omega (arith, sum_by-cons (λ n. 0) n ns, sum_zero ns)

-- what a line drops, as a sum
sum_dropped : (script : List (Option Command)) (line : ℕ) (d : Command) →
    sum_by (λ n. if is_dropped (dropped_at (commands_of script) line (name_dropped d)) n.line then made (commands_of script) n else 0) (commands_of script) ≡ recovery_dropped (commands_of script) line d
unfolding made
sum_dropped script line (c.Discard name) = by_maker (maker (commands_of script) line name)
  where
    by_command : (at : ℕ) (o : Option Command) → on (λ n. recovery_made (commands_of script) n.line n.command) at o ≡ recovery_on (commands_of script) (Some at) o
    by_command at None = refl
    by_command at (Some x) = refl

    by_maker : (o : Option ℕ) → sum_by (λ n. if is_dropped o n.line then recovery_made (commands_of script) n.line n.command else 0) (commands_of script) ≡ recovery_on (commands_of script) o (command_on (commands_of script) o)
    by_maker None = sum_zero (commands_of script)
    by_maker (Some at) = sum_at (λ n. recovery_made (commands_of script) n.line n.command) at 1 script ∙ by_command at (command_at (commands_of script) at)
sum_dropped script line d = sum_zero (commands_of script)

pub live-next : (script : List (Option Command)) (line : ℕ) (d : Command) → 1 ≤ line → command_at (commands_of script) line ≡ Some d →
    ((name : List ℕ) → name_made d ≡ Some name → maker (commands_of script) line name ≡ None) →
    live_before (commands_of script) (suc line) + recovery_dropped (commands_of script) line d ≡ live_before (commands_of script) line + made_on (commands_of script) line
unfolding live_before made_on
live-next script line d le there free =
    let cs = commands_of script in
    let f : Numbered → ℕ = λ n. if is_dropped (dropped_at cs line (name_dropped d)) n.line then made cs n else 0 in
    let g : Numbered → ℕ = λ n. if eqb n.line line then made cs n else 0 in
    sym (sum_both (still cs (suc line)) f cs ∙ ap (λ x. sum_by (still cs (suc line)) cs + x) (sum_dropped script line d))
    ∙ same_sums (λ n. still cs (suc line) n + f n) (λ n. still cs line n + g n) 1 script (λ n low e. changes script line d n le there e free)
    ∙ sum_both (still cs line) g cs ∙ ap (λ x. sum_by (still cs line) cs + x) (sum_at (made cs) line 1 script)

pub live-none : (script : List (Option Command)) (line : ℕ) → 1 ≤ line → command_at (commands_of script) line ≡ None → live_before (commands_of script) (suc line) ≡ live_before (commands_of script) line
unfolding live_before still
live-none script line le none = same_sums (still (commands_of script) (suc line)) (still (commands_of script) line) 1 script (λ n low e. by_name n (name_made n.command))
  where
    by_name : (n : Numbered) (o : Option (List ℕ)) → (if still_means (commands_of script) (suc line) o n.line then recovery_made (commands_of script) n.line n.command else 0) ≡
        (if still_means (commands_of script) line o n.line then recovery_made (commands_of script) n.line n.command else 0)
    by_name n None = refl
    by_name n (Some name) =
        ap (λ o. if is_line o n.line then recovery_made (commands_of script) n.line n.command else 0)
        (maker-next script line name le ∙ ap (λ o. meant_after o line name (maker (commands_of script) line name)) none)

pub live-start : (script : List (Option Command)) → live_before (commands_of script) 1 ≡ 0
unfolding live_before still
live-start script =
    same_sums (still (commands_of script) 1) (λ n. 0) 1 script
    (λ n le e. ap (λ t. if t then recovery_made (commands_of script) n.line n.command else 0) (not_yet (commands_of script) 1 (name_made n.command) n.line le))
    ∙ sum_zero (commands_of script)

pub made_on-there : (cs : List Numbered) (line : ℕ) (d : Command) → command_at cs line ≡ Some d → made_on cs line ≡ recovery_made cs line d
unfolding made_on made
made_on-there cs line d e = ap (on (made cs) line) e

-- ---- the loop over the lines

-- the lines before a place: what lives there, and the most that lived around one of them
pub record IsLive (script lines : List (Option Command)) (i live so_far : ℕ) : Type 0 where
  pub here : live ≡ live_before (commands_of script) (suc i)
  pub few : live ≤ 16777215 * i
  pub most : IsGreatest (λ n. live_recovery (commands_of script) n.line) lines 68719476735 i so_far (greatest (λ n. live_recovery (commands_of script) n.line) (commands_of script))

pub live_started : (script lines : List (Option Command)) → lines ≡ script → IsLive script lines 0 0 0
live_started script lines e =
    record { here = sym (live-start script); few = omega arith; most = greatest_start (λ n. live_recovery (commands_of script) n.line) script lines 68719476735 e }

pub line_said : (script lines : List (Option Command)) (i : ℕ) (o : Option Command) → lines ≡ script → i < length lines → o ≡ get_or lines i o → slice_get script i ≡ Some o
line_said script lines i o same lt e = ap (λ (ls : List (Option Command)). slice_get ls i) (sym same) ∙ slice_get_read lines (length lines) i o refl lt e

pub live_some : (script lines : List (Option Command)) (i live so_far live' so_far' r dropped : ℕ) (o : Option Command) (d : Command) → KeepsRules script → lines ≡ script → i < length lines → o ≡ get_or lines i o →
    o ≡ Some d → r ≡ recovery_made (commands_of script) (suc i) d → r < 2 ^ 24 → dropped ≡ recovery_dropped (commands_of script) (suc i) d → so_far' ≡ max so_far (live + r) → live' ≡ (live + r) - dropped →
    IsLive script lines i live so_far → IsLive script lines (i + 1) live' so_far'
live_some script lines i live so_far live' so_far' r dropped o d rules same lt e s v small drop m l h =
    let cs = commands_of script in
    let size : length lines ≤ 4096 = omega (arith, rules.few, ap length same) in
    let there = command_at-from_OnLine script i d (line_said script lines i o same lt e ∙ ap (λ x. Some x) s) in
    let around = live-line script (suc i) in
    let own = made_on-there cs (suc i) d there in
    let next = live-next script (suc i) d (omega arith) there (λ name n. made_name_free script (suc i) d name rules there n) in
    let k : i + 1 ≡ suc i = omega arith in
    let more : live_before cs (suc (i + 1)) ≡ live_before cs (suc (suc i)) = ap (λ j. live_before cs (suc j)) k in
    let whole : live + r ≡ live_recovery cs (suc i) = omega (arith, around, own, h.here, v) in
    record {
      here = omega (arith, next, own, more, h.here, v, drop, l);
      few = omega (arith, h.few, small, l);
      most = greatest_some (λ n. live_recovery cs n.line) lines 68719476735 i so_far so_far' (live + r) (greatest (λ n. live_recovery cs n.line) cs) o d lt e s whole (omega (arith, h.few, small, size, lt)) m h.most;
    }

pub live_none : (script lines : List (Option Command)) (i live so_far live' so_far' : ℕ) (o : Option Command) → lines ≡ script → i < length lines → o ≡ get_or lines i o → o ≡ None →
    so_far' ≡ so_far → live' ≡ live → IsLive script lines i live so_far → IsLive script lines (i + 1) live' so_far'
live_none script lines i live so_far live' so_far' o same lt e s m l h =
    let cs = commands_of script in
    let j : suc i - 1 ≡ i = omega arith in
    let none = command_at-commands_from 1 script (suc i) (omega arith) ∙ ap (λ n. said (slice_get script n)) j ∙ ap said (line_said script lines i o same lt e ∙ ap (λ x. Some x) s) in
    let next = live-none script (suc i) (omega arith) none in
    let k : i + 1 ≡ suc i = omega arith in
    let more : live_before cs (suc (i + 1)) ≡ live_before cs (suc (suc i)) = ap (λ j. live_before cs (suc j)) k in
    record {
      here = omega (arith, next, more, h.here, l);
      few = omega (arith, h.few, l);
      most = greatest_none (λ n. live_recovery cs n.line) lines 68719476735 i so_far so_far' (greatest (λ n. live_recovery cs n.line) cs) o lt e s m h.most;
    }

-- ---- what a line drops

-- a command that stands on an earlier line
pub record StandsBefore (script : List (Option Command)) (line at : ℕ) (made : Command) : Type 0 where
  pub low : 1 ≤ at
  pub early : at < line
  pub there : slice_get script (at - 1) ≡ Some (Some made)

pub dropped_there : (script : List (Option Command)) (line at : ℕ) (name : List ℕ) (made : Command) → Some at ≡ maker (commands_of script) line name → Some made ≡ command_at (commands_of script) at → StandsBefore script line at made
dropped_there script line at name made m e =
    let on = OnLine-from_command_at script at made (sym e) in
    let k : on.place ≡ at - 1 = omega (arith, on.number) in
    record {
      low = omega (arith, on.number);
      early = maker-lt (commands_of script) line name at (sym m);
      there = ap (slice_get script) (sym k) ∙ on.said;
    }

pub dropped_is : (script : List (Option Command)) (place line at : ℕ) (name word : List ℕ) (d made : Command) → line ≡ suc place → word ≡ name → d ≡ c.Discard name → Some at ≡ maker (commands_of script) line word →
    Some made ≡ command_at (commands_of script) at → recovery_made (commands_of script) (suc (at - 1)) made ≡ recovery_dropped (commands_of script) (suc place) d
dropped_is script place line at name word d made l w s m e =
    let cs = commands_of script in
    let low = (dropped_there script line at word made m e).low in
    let k : suc (at - 1) ≡ at = omega arith in
    let same : Some at ≡ maker cs (suc place) name = m ∙ ap (λ x. maker cs x word) l ∙ ap (maker cs (suc place)) w in
    ap (λ x. recovery_made cs x made) k ∙ ap (recovery_on cs (Some at)) e ∙ ap (λ o. recovery_on cs o (command_on cs o)) same ∙ sym (ap (recovery_dropped cs (suc place)) s)
