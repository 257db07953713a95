-- What the lines of a script ask of the ranks, as a table.
use Rattle.std.specs.Prelude.{◌≡◌, ◌<◌, ◌==◌, ℕ, Bool, false, if◌then◌else◌, Option, Some, None, IfSome, List, [], ◌∷◌, map, All}
use Rattle.field_core.specs.Residue.{inverse}
use Rattle.run_data.specs.Matrix.{zero_matrix}
use Rattle.rank_machine.specs.declared.mark.Mark.{Mark}
use Rattle.rank_machine.specs.Setting.{Job, Setting, no_job}
use Rattle.rank_machine.specs.Effect.{has_ended}
use Rattle.script_lines.specs.declared.lines.Line.{Line}
use Rattle.script_lines.specs.Layouts.{IsLayout}

-- a line of a table, as a job that asks nothing else
abbrev pub job_seen : Line → Job
job_seen x = record (no_job x.line) { makes = x.makes; factors = x.factors; drops = x.drops }

-- a setting of these lines, for the words modulo p: all that a rank reads of a script
abbrev pub setting_on : ℕ → List Line → Setting
setting_on p table = record {
  modulus = p;
  inverse = inverse p;
  grids = [];
  jobs = map job_seen table;
  capacity = 0;
  losses = [];
  spares = None;
  files = λ _. zero_matrix 0 0;
}

-- what a job makes, factors and drops, and nothing else
abbrev pub of_slots : Job → Job
of_slots j = record (no_job j.line) { makes = j.makes; factors = j.factors; drops = j.drops }

-- the table has a line for each of these jobs, in their order
abbrev pub IsTableOf : List Job → List Line → Type 0
IsTableOf jobs table = map job_seen table ≡ map of_slots jobs

-- a line that is in no table asks nothing
abbrev pub no_line : ℕ → Line
no_line line = record { line = line; makes = None; factors = 0; drops = 0; dropped = None }

-- the line of that number in a table
abbrev pub line_in : List Line → ℕ → Line
line_in [] line = no_line line
line_in (x ∷ xs) line = if x.line == line then x else line_in xs line

-- the first line that drops what a line made
abbrev pub first_drop : List Line → ℕ → Option ℕ
first_drop [] what = None
first_drop (x ∷ xs) what = if x.drops == what then Some x.line else first_drop xs what

-- a line with what a table says of its drop
abbrev pub with_drop : List Line → Line → Line
with_drop table x = record x { dropped = first_drop table x.line }

-- whether what is dropped by a line, or by none, has been dropped under a mark
abbrev pub is_dropped_by : Mark → Option ℕ → Bool
is_dropped_by mark None = false
is_dropped_by mark (Some line) = has_ended mark line

-- each matrix of a table lies on a grid within the limits, by a descriptor in its ranges
abbrev pub AreLaidOut : List Line → Type 0
AreLaidOut table = All (λ (x : Line). IfSome x.makes IsLayout) table

-- the lines of a table come by rising number
abbrev pub AreRising : List Line → Type 0
AreRising [] = Unit {0}
AreRising (x ∷ xs) = All (λ (y : Line). x.line < y.line) xs × AreRising xs

-- a table of matrices within their limits, by rising line, in which each line says by which line it is dropped
pub record AreSound (table : List Line) : Type 0 where
  pub laid_out : AreLaidOut table
  pub rising : AreRising table
  pub drops : All (λ (x : Line). x.dropped ≡ first_drop table x.line) table
