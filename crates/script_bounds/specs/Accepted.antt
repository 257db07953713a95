-- Scripts that break no rule.
use Rattle.std.specs.Prelude.{◌≡◌, ℕ, suc, ◌≤◌, Bool, nat_le, List, [], ◌∷◌, length, take, slice_get, Option, Some, None, ℤ, pos}
use Rattle.std.specs.Option.{option_or}
use Rattle.run_data.specs.declared.command.Command.{Command}
use Rattle.run_data.specs.declared.command.Command.TheVariants as c
use Rattle.run_data.specs.Script.{Numbered, commands_of}
use Rattle.script_words.specs.declared.kinds.Kind.{Kind}
use Rattle.script_words.specs.declared.kinds.Kind.TheVariants.{NewName, GridName, MatrixName, ListName, ThingName, FileName}
use Rattle.script_words.specs.Limits.{line_limit, record_limit}
use Rattle.script_rules.specs.declared.told.Told.{Told}
use Rattle.script_words.specs.Tables.{first_code}
use Rattle.script_rules.specs.Rules.{word_rules, rules}
use Rattle.script_rules.specs.Told.{told_of_script}
use Rattle.script_bounds.specs.Bounds.{bound}

-- the names of a command and its file, with what each stands for, from left to right
abbrev pub named_words : Command → List (Kind × List ℕ)
named_words (c.Grid name p q f) = (NewName, name) ∷ []
named_words (c.Matrix name grid m n mb nb rsrc csrc file) = (NewName, name) ∷ (GridName, grid) ∷ (FileName, file) ∷ []
named_words (c.Pgemm transa transb m n k alpha a ia ja b ib jb beta x ic jc) = (MatrixName, a) ∷ (MatrixName, b) ∷ (MatrixName, x) ∷ []
named_words (c.Ptrsm side uplo transa diag m n alpha a ia ja b ib jb) = (MatrixName, a) ∷ (MatrixName, b) ∷ []
named_words (c.Pgetrf m n a ia ja v) = (MatrixName, a) ∷ (NewName, v) ∷ []
named_words (c.Pgetrs trans n nrhs a ia ja v b ib jb) = (MatrixName, a) ∷ (ListName, v) ∷ (MatrixName, b) ∷ []
named_words (c.Pgemr2d m n a ia ja b ib jb ctxt) = (MatrixName, a) ∷ (MatrixName, b) ∷ []
named_words (c.Print name) = (MatrixName, name) ∷ []
named_words (c.Pivots name) = (ListName, name) ∷ []
named_words (c.Discard name) = (ThingName, name) ∷ []
named_words (c.Topology kind) = []
named_words (c.Links n) = []
named_words (c.Order numbers) = []
named_words (c.Lose at rank) = []
named_words (c.Spares n) = []
named_words (c.Field n) = []
named_words (c.Ptran m n alpha a ia ja beta x ic jc) = (MatrixName, a) ∷ (MatrixName, x) ∷ []
named_words (c.Pgetri n a ia ja v b ib jb) = (MatrixName, a) ∷ (ListName, v) ∷ (MatrixName, b) ∷ []
named_words (c.Flip name i j x) = (MatrixName, name) ∷ []
named_words (c.Pverify name) = (MatrixName, name) ∷ []

-- the first of these words that breaks a rule
abbrev pub names_code : List Numbered → ℕ → List (Kind × List ℕ) → Option ℤ
names_code cs line [] = None
names_code cs line (word ∷ words) = option_or (first_code (word_rules cs line word.0 word.1)) (names_code cs line words)

-- an `order` command has at least one number; the other commands have their number of words as they are
abbrev pub count_rules : Command → List (ℤ × Bool)
count_rules (c.Order numbers) = (pos 2, nat_le 1 (length numbers)) ∷ []
count_rules _ = []

-- the first rule that a command breaks as the next line of a script, in the order of a line's rules: the number of its words, its names
-- from left to right, and the rules of its command; `told` is what the whole script tells
unfoldable pub broken_by : Told → List (Option Command) → Command → Option ℤ
broken_by told script c =
    option_or (first_code (count_rules c))
    (option_or (names_code (commands_of script) (suc (length script)) (named_words c)) (first_code (rules told (commands_of script) (suc (length script)) c)))

-- a script none of whose lines breaks a rule after the lines before it
pub record KeepsRules (script : List (Option Command)) : Type 0 where
  pub few : length script ≤ line_limit
  pub kept : (i : ℕ) (c : Command) → slice_get script i ≡ Some (Some c) → broken_by (told_of_script (commands_of script)) (take i script) c ≡ None

-- a script that is accepted
pub record IsAccepted (script : List (Option Command)) : Type 0 where
  pub lines : KeepsRules script
  pub bounded : bound (commands_of script) ≤ record_limit
