-- A script as its commands, each with the number of its line, and what the names of a line mean.
use Rattle.std.specs.Prelude.{ℕ, suc, ◌+◌, ◌==◌, if◌then◌else◌, Bool, true, false, nat_lt, List, [], ◌∷◌, Option, Some, None}
use Rattle.std.specs.Str.{bytes_eq}
use Rattle.run_data.specs.declared.command.Command.{Command}
use Rattle.run_data.specs.declared.command.Command.TheVariants as c

-- a command and the number of its line
pub record Numbered : Type 0 where
  pub line : ℕ
  pub command : Command

-- the commands of lines numbered from n; a line without words has none
abbrev pub commands_from : ℕ → List (Option Command) → List Numbered
commands_from n [] = []
commands_from n (None ∷ lines) = commands_from (suc n) lines
commands_from n (Some command ∷ lines) = record { line = n; command = command } ∷ commands_from (suc n) lines

-- the commands of a script, whose lines count from 1
abbrev pub commands_of : List (Option Command) → List Numbered
commands_of lines = commands_from 1 lines

-- the command of a line
abbrev pub command_at : List Numbered → ℕ → Option Command
command_at [] line = None
command_at (n ∷ ns) line = if n.line == line then Some n.command else command_at ns line

-- whether a command makes records of a journal
abbrev pub makes_records : Command → Bool
makes_records (c.Grid name p q f) = false
makes_records (c.Matrix name grid m n mb nb rsrc csrc file) = true
makes_records (c.Pgemm transa transb m n k alpha a ia ja b ib jb beta x ic jc) = true
makes_records (c.Ptrsm side uplo transa diag m n alpha a ia ja b ib jb) = true
makes_records (c.Pgetrf m n a ia ja v) = true
makes_records (c.Pgetrs trans n nrhs a ia ja v b ib jb) = true
makes_records (c.Pgemr2d m n a ia ja b ib jb ctxt) = true
makes_records (c.Print name) = true
makes_records (c.Pivots name) = true
makes_records (c.Discard name) = true
makes_records (c.Topology kind) = false
makes_records (c.Links n) = false
makes_records (c.Order numbers) = false
makes_records (c.Lose at rank) = false
makes_records (c.Spares n) = false
makes_records (c.Field n) = false
makes_records (c.Ptran m n alpha a ia ja beta x ic jc) = true
makes_records (c.Pgetri n a ia ja v b ib jb) = true
makes_records (c.Flip name i j x) = false
makes_records (c.Pverify name) = true

-- the name that a command makes, and the name that it drops
abbrev pub name_made : Command → Option (List ℕ)
name_made (c.Grid name p q f) = Some name
name_made (c.Matrix name grid m n mb nb rsrc csrc file) = Some name
name_made (c.Pgetrf m n a ia ja v) = Some v
name_made _ = None

abbrev pub name_dropped : Command → Option (List ℕ)
name_dropped (c.Discard name) = Some name
name_dropped _ = None

-- a name, if there is one, is this one
abbrev pub is_name : Option (List ℕ) → List ℕ → Bool
is_name None name = false
is_name (Some other) name = bytes_eq other name

-- the line that made what a name means, after one more command
abbrev pub maker_after : Numbered → List ℕ → Option ℕ → Option ℕ
maker_after n name before = if is_name (name_made n.command) name then Some n.line else if is_name (name_dropped n.command) name then None else before

-- the same after those of these commands that stand before a line
abbrev pub maker_from : List Numbered → ℕ → List ℕ → Option ℕ → Option ℕ
maker_from [] line name before = before
maker_from (n ∷ ns) line name before = maker_from ns line name (if nat_lt n.line line then maker_after n name before else before)

-- the line that made what a name means as seen from a line: an earlier line made it, and no line between drops it; the last such line counts
abbrev pub maker : List Numbered → ℕ → List ℕ → Option ℕ
maker ns line name = maker_from ns line name None

-- the name of a grid, a matrix or a pivot list that a word of a command is; words count from 0, the command's own word included
abbrev pub name_at : Command → ℕ → Option (List ℕ)
name_at (c.Grid name p q f) word = if word == 1 then Some name else None
name_at (c.Matrix name grid m n mb nb rsrc csrc file) word = if word == 1 then Some name else if word == 2 then Some grid else None
name_at (c.Pgemm transa transb m n k alpha a ia ja b ib jb beta x ic jc) word = if word == 7 then Some a else if word == 10 then Some b else if word == 14 then Some x else None
name_at (c.Ptrsm side uplo transa diag m n alpha a ia ja b ib jb) word = if word == 8 then Some a else if word == 11 then Some b else None
name_at (c.Pgetrf m n a ia ja v) word = if word == 3 then Some a else if word == 6 then Some v else None
name_at (c.Pgetrs trans n nrhs a ia ja v b ib jb) word = if word == 4 then Some a else if word == 7 then Some v else if word == 8 then Some b else None
name_at (c.Pgemr2d m n a ia ja b ib jb ctxt) word = if word == 3 then Some a else if word == 6 then Some b else None
name_at (c.Print name) word = if word == 1 then Some name else None
name_at (c.Pivots name) word = if word == 1 then Some name else None
name_at (c.Discard name) word = if word == 1 then Some name else None
name_at (c.Topology kind) word = None
name_at (c.Links n) word = None
name_at (c.Order numbers) word = None
name_at (c.Lose at rank) word = None
name_at (c.Spares n) word = None
name_at (c.Field n) word = None
name_at (c.Ptran m n alpha a ia ja beta x ic jc) word = if word == 4 then Some a else if word == 8 then Some x else None
name_at (c.Pgetri n a ia ja v b ib jb) word = if word == 2 then Some a else if word == 5 then Some v else if word == 6 then Some b else None
name_at (c.Flip name i j x) word = if word == 1 then Some name else None
name_at (c.Pverify name) word = if word == 1 then Some name else None

-- how many lost ranks can be replaced, after one more command: what a spares line says, and without one there is no limit
abbrev pub spares_after : Command → Option ℕ → Option ℕ
spares_after (c.Grid name p q f) before = before
spares_after (c.Matrix name grid m n mb nb rsrc csrc file) before = before
spares_after (c.Pgemm transa transb m n k alpha a ia ja b ib jb beta x ic jc) before = before
spares_after (c.Ptrsm side uplo transa diag m n alpha a ia ja b ib jb) before = before
spares_after (c.Pgetrf m n a ia ja v) before = before
spares_after (c.Pgetrs trans n nrhs a ia ja v b ib jb) before = before
spares_after (c.Pgemr2d m n a ia ja b ib jb ctxt) before = before
spares_after (c.Print name) before = before
spares_after (c.Pivots name) before = before
spares_after (c.Discard name) before = before
spares_after (c.Topology kind) before = before
spares_after (c.Links n) before = before
spares_after (c.Order numbers) before = before
spares_after (c.Lose at rank) before = before
spares_after (c.Spares n) before = Some n
spares_after (c.Field n) before = before
spares_after (c.Ptran m n alpha a ia ja beta x ic jc) before = before
spares_after (c.Pgetri n a ia ja v b ib jb) before = before
spares_after (c.Flip name i j x) before = before
spares_after (c.Pverify name) before = before

abbrev pub spares_from : Option ℕ → List Numbered → Option ℕ
spares_from before [] = before
spares_from before (n ∷ ns) = spares_from (spares_after n.command before) ns

-- how many lost ranks can be replaced, or None where there is no limit
abbrev pub spares_of : List Numbered → Option ℕ
spares_of ns = spares_from None ns

-- ---- the field
-- the modulus of the words of a run, after one more command
abbrev pub modulus_after : Command → ℕ → ℕ
modulus_after (c.Grid name p q f) before = before
modulus_after (c.Matrix name grid m n mb nb rsrc csrc file) before = before
modulus_after (c.Pgemm transa transb m n k alpha a ia ja b ib jb beta x ic jc) before = before
modulus_after (c.Ptrsm side uplo transa diag m n alpha a ia ja b ib jb) before = before
modulus_after (c.Pgetrf m n a ia ja v) before = before
modulus_after (c.Pgetrs trans n nrhs a ia ja v b ib jb) before = before
modulus_after (c.Pgemr2d m n a ia ja b ib jb ctxt) before = before
modulus_after (c.Print name) before = before
modulus_after (c.Pivots name) before = before
modulus_after (c.Discard name) before = before
modulus_after (c.Topology kind) before = before
modulus_after (c.Links n) before = before
modulus_after (c.Order numbers) before = before
modulus_after (c.Lose at rank) before = before
modulus_after (c.Spares n) before = before
modulus_after (c.Field n) before = n
modulus_after (c.Ptran m n alpha a ia ja beta x ic jc) before = before
modulus_after (c.Pgetri n a ia ja v b ib jb) before = before
modulus_after (c.Flip name i j x) before = before
modulus_after (c.Pverify name) before = before

abbrev pub modulus_from : ℕ → List Numbered → ℕ
modulus_from before [] = before
modulus_from before (n ∷ ns) = modulus_from (modulus_after n.command before) ns

-- the modulus of all words of a run: what a field line says, and 65537 where there is none
abbrev pub modulus_of : List Numbered → ℕ
modulus_of ns = modulus_from 65537 ns

abbrev pub is_grid : Command → Bool
is_grid (c.Grid name p q f) = true
is_grid _ = false

-- how many grids lines before a line make
abbrev pub grids_before : List Numbered → ℕ → ℕ
grids_before [] line = 0
grids_before (n ∷ ns) line = (if nat_lt n.line line then (if is_grid n.command then 1 else 0) else 0) + grids_before ns line

abbrev pub is_grid_line : Option Command → Bool
is_grid_line None = false
is_grid_line (Some command) = is_grid command

-- a grid counts by its number, and everything else by its line
abbrev pub operand_number : List Numbered → Option ℕ → Option ℕ
operand_number ns None = None
operand_number ns (Some line) = Some (if is_grid_line (command_at ns line) then grids_before ns line else line)

abbrev pub meant : List Numbered → ℕ → Option (List ℕ) → Option ℕ
meant ns line None = None
meant ns line (Some name) = operand_number ns (maker ns line name)

abbrev pub name_in : Option Command → ℕ → Option (List ℕ)
name_in None word = None
name_in (Some command) word = name_at command word

-- what a word of a line means: the number of a grid, or the line that made a matrix or a pivot list
abbrev pub operand : List Numbered → ℕ → ℕ → Option ℕ
operand ns line word = meant ns line (name_in (command_at ns line) word)
