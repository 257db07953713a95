-- A table so far and the lines that are left, in the loop that makes a table; and what becomes of it with its drops.
use Rattle.std.proofs.Common.{◌≡◌, ◌+◌, ◌<◌, ◌≤◌, ℕ, Bool, true, false, List, [], ◌∷◌, ◌++◌, map, get_or, Option, Some, refl, sym, ap, ◌∙◌, All, arith}
use Rattle.std.specs.Prelude.{◌==◌, IfSome, if◌then◌else◌}
use Rattle.std.proofs.Common.{append_assoc}
use Rattle.std.proofs.lemmas.List.{map-append}
use Rattle.std.proofs.lemmas.List.Elements.{All-nil, All-head, All-tail, All-map, All-push, All-weaker}
use Rattle.run_data.specs.declared.command.Command.{Command}
use Rattle.run_data.specs.Script.{Numbered, commands_of, makes_records}
use Rattle.rank_machine.specs.Setting.{Job}
use Rattle.rank_machine.specs.Scripts.{grids_from, jobs_from, job_of}
use Rattle.script_lines.specs.declared.lines.Line.{Line}
use Rattle.script_lines.specs.Layouts.{IsLayout, jobs_of}
use Rattle.script_lines.specs.Lines.{job_seen, of_slots, first_drop, with_drop, IsTableOf, AreLaidOut, AreRising, AreSound}

-- what some commands of a script ask of a table
abbrev pub asked : List (Option Command) → List Numbered → List Job
asked script left = map of_slots (jobs_from (commands_of script) (grids_from 0 (commands_of script)) left)

-- a command that makes records is one line more
pub asked-push : (script : List (Option Command)) (n : Numbered) (left : List Numbered) (table : List Line) (x : Line) → makes_records n.command ≡ true
    → job_seen x ≡ of_slots (job_of (commands_of script) (grids_from 0 (commands_of script)) n.line n.command)
    → map job_seen (table ++ x ∷ []) ++ asked script left ≡ map job_seen table ++ asked script (n ∷ left)
asked-push script n left table x makes job =
    ap (λ js. js ++ asked script left) (map-append job_seen table (x ∷ []))
    ∙ append_assoc (map job_seen table) (job_seen x ∷ []) (asked script left)
    ∙ ap (λ j. map job_seen table ++ j ∷ asked script left) job
    ∙ ap (λ js. map job_seen table ++ js) (sym (opened makes))
  where
    opened : makes_records n.command ≡ true → asked script (n ∷ left) ≡ of_slots (job_of (commands_of script) (grids_from 0 (commands_of script)) n.line n.command) ∷ asked script left
    opened is = ap (λ b. map of_slots (if b then job_of (commands_of script) (grids_from 0 (commands_of script)) n.line n.command ∷ jobs_from (commands_of script) (grids_from 0 (commands_of script)) left
        else jobs_from (commands_of script) (grids_from 0 (commands_of script)) left)) is

-- any other command is none
pub asked-pass : (script : List (Option Command)) (n : Numbered) (left : List Numbered) → makes_records n.command ≡ false → asked script (n ∷ left) ≡ asked script left
asked-pass script n left is =
    ap (λ b. map of_slots (if b then job_of (commands_of script) (grids_from 0 (commands_of script)) n.line n.command ∷ jobs_from (commands_of script) (grids_from 0 (commands_of script)) left
    else jobs_from (commands_of script) (grids_from 0 (commands_of script)) left)) is

pub laid_out-push : (table : List Line) (x : Line) → AreLaidOut table → IfSome x.makes IsLayout → AreLaidOut (table ++ x ∷ [])
laid_out-push table x sound h = All-push (λ (y : Line). IfSome y.makes IsLayout) table x sound h

-- the lines so far come up to a number, and the next has the number after it
pub before-more : (table : List Line) (i : ℕ) → All (λ (x : Line). x.line ≤ i) table → All (λ (x : Line). x.line ≤ i + 1) table
before-more table i h = All-weaker (λ (x : Line). x.line ≤ i) (λ (x : Line). x.line ≤ i + 1) (λ x le. omega (arith, le)) table h

pub before-push : (table : List Line) (x : Line) (i : ℕ) → All (λ (y : Line). y.line ≤ i) table → x.line ≡ i + 1 → All (λ (y : Line). y.line ≤ i + 1) (table ++ x ∷ [])
before-push table x i h e = All-push (λ (y : Line). y.line ≤ i + 1) table x (before-more table i h) (omega (arith, e))

rising-last : (table : List Line) (x : Line) → AreRising table → All (λ (y : Line). y.line < x.line) table → AreRising (table ++ x ∷ [])
rising-last [] x rising h = (All-nil (λ (z : Line). x.line < z.line), tt)
rising-last (y ∷ ys) x rising h =
    (All-push (λ (z : Line). y.line < z.line) ys x rising.0 (All-head (λ (z : Line). z.line < x.line) y ys h), rising-last ys x rising.1 (All-tail (λ (z : Line). z.line < x.line) y ys h))

pub rising-push : (table : List Line) (x : Line) (i : ℕ) → AreRising table → All (λ (y : Line). y.line ≤ i) table → x.line ≡ i + 1 → AreRising (table ++ x ∷ [])
rising-push table x i rising h e = rising-last table x rising (All-weaker (λ (y : Line). y.line ≤ i) (λ (y : Line). y.line < x.line) (λ y le. omega (arith, le, e)) table h)

-- ---- lines with what is dropped by which line
jobs-with_drop : (t xs : List Line) → map job_seen (map (with_drop t) xs) ≡ map job_seen xs
jobs-with_drop t [] = refl
jobs-with_drop t (x ∷ xs) = ap (λ js. job_seen x ∷ js) (jobs-with_drop t xs)

drop-chosen : (here : Bool) (line : ℕ) (a b : Option ℕ) → a ≡ b → (if here then Some line else a) ≡ (if here then Some line else b)
drop-chosen true line a b e = refl
drop-chosen false line a b e = e

drops-with_drop : (t xs : List Line) (what : ℕ) → first_drop (map (with_drop t) xs) what ≡ first_drop xs what
drops-with_drop t [] what = refl
drops-with_drop t (x ∷ xs) what = drop-chosen (x.drops == what) x.line (first_drop (map (with_drop t) xs) what) (first_drop xs what) (drops-with_drop t xs what)

rising-with_drop : (t xs : List Line) → AreRising xs → AreRising (map (with_drop t) xs)
rising-with_drop t [] rising = tt
rising-with_drop t (x ∷ xs) rising = (All-map (λ (y : Line). x.line < y.line) (with_drop t) xs rising.0, rising-with_drop t xs rising.1)

pub table-with_drop : (script : List (Option Command)) (t : List Line) → IsTableOf (jobs_of script) t → IsTableOf (jobs_of script) (map (with_drop t) t)
table-with_drop script t h = jobs-with_drop t t ∙ h

pub sound-with_drop : (t : List Line) → AreLaidOut t → AreRising t → AreSound (map (with_drop t) t)
sound-with_drop t laid_out rising = record {
  laid_out = All-map (λ (x : Line). IfSome x.makes IsLayout) (with_drop t) t laid_out;
  rising = rising-with_drop t t rising;
  drops = All-map (λ (x : Line). x.dropped ≡ first_drop (map (with_drop t) t) x.line) (with_drop t) t (λ i d lt. sym (drops-with_drop t t (get_or t i d).line));
}
