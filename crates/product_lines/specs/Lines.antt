-- What an accepted script gives a `pgemm` line on the ranks.
use Rattle.std.specs.Prelude.{◌≡◌, ◌≢◌, ℕ, ◌<◌, Bool, true, false, List, [], ◌∷◌, Option, Some}
use Rattle.run_data.specs.declared.command.Command.{Command}
use Rattle.run_data.specs.Script.{commands_of, maker, modulus_of}
use Rattle.blacs_comm.specs.declared.topology.Topology.{Topology}
use Rattle.blacs_comm.specs.declared.topology.Topology.TheVariants.{I, D, T}
use Rattle.rank_machine.specs.declared.mark.Mark.{Mark}
use Rattle.rank_machine.specs.declared.layout.Layout.{Layout}
use Rattle.rank_machine.specs.Setting.{Setting, Path, anywhere, forwards, backwards, members, job, is_job, layout, is_matrix, factored}
use Rattle.rank_machine.specs.Scripts.{Matrices, line_meant, path_from, setting_of}
use Rattle.rank_machine.specs.Effect.{has_ended, is_dropped, is_live_matrix}
use Rattle.script_lines.specs.Layouts.{IsLayout}
use Rattle.round_laws.specs.Turns.{IsGridOf}
use Rattle.whole_run.specs.Between.{Names}
use Rattle.product_rounds.specs.declared.rounds.GroupProduct.{GroupProduct}

-- ---- the lines of its matrices
-- the lines that made A, B and C of a `pgemm` line
abbrev pub line_of_a : List (Option Command) → ℕ → ℕ
line_of_a script line = line_meant (commands_of script) line 7

abbrev pub line_of_b : List (Option Command) → ℕ → ℕ
line_of_b script line = line_meant (commands_of script) line 10

abbrev pub line_of_c : List (Option Command) → ℕ → ℕ
line_of_c script line = line_meant (commands_of script) line 14

-- What a name of a line means is the matrix that an earlier line made, on a grid of the run. It is live under a mark under which that line has ended and no job from
-- the line of the name on, and under each mark of the line of the name itself, which drops nothing.
pub record IsMatrixOf (script : List (Option Command)) (files : Matrices) (line : ℕ) (name : List ℕ) (at : ℕ) : Type 0 where
  pub maker_is : maker (commands_of script) line name ≡ Some at
  pub some_line : 0 < at
  pub before : at < line
  pub made : is_matrix (setting_of script files) at ≡ true
  pub makes_records : is_job (setting_of script files) at ≡ true
  pub plain : factored (setting_of script files) at ≡ 0
  pub named : Names (commands_of script) at name
  pub laid_out : IsLayout (layout (setting_of script files) at)
  pub of_run : IsGridOf (setting_of script files) (layout (setting_of script files) at).grid
  pub live : (mark : Mark) → has_ended mark at ≡ true → ((other : ℕ) → is_job (setting_of script files) other ≡ true → has_ended mark other ≡ true → other < line) → is_live_matrix (setting_of script files) mark at ≡ true
  pub stays : (mark : Mark) → mark.line ≡ line → is_live_matrix (setting_of script files) mark at ≡ true

-- ---- what the line is to the machine
-- It makes, factors and drops nothing, multiplies by ALPHA and BETA, and its messages go the way of the topology that holds for it; so what is dropped is the same whether
-- it has ended or not.
pub record IsProductJob (script : List (Option Command)) (files : Matrices) (line alpha beta : ℕ) : Type 0 where
  pub makes_records : is_job (setting_of script files) line ≡ true
  pub scalars : (job (setting_of script files) line).scalars ≡ alpha ∷ beta ∷ []
  pub path : (job (setting_of script files) line).path ≡ path_from forwards (commands_of script) line
  pub no_matrix : is_matrix (setting_of script files) line ≡ false
  pub plain : factored (setting_of script files) line ≡ 0
  pub drops_none : (job (setting_of script files) line).drops ≡ 0
  pub dropped_same : (mark other : Mark) → ((at : ℕ) → is_job (setting_of script files) at ≡ true → at ≢ line → has_ended mark at ≡ has_ended other at)
      → (what : ℕ) → 0 < what → is_dropped (setting_of script files) mark what ≡ is_dropped (setting_of script files) other what
  pub alpha_below : alpha < modulus_of (commands_of script)
  pub beta_below : beta < modulus_of (commands_of script)

-- ---- where its matrices lie
-- A, B and C lie on one grid in blocks that fit, and have the rows and columns that the line says
pub record LieAligned (a b c : Layout) (m n k : ℕ) : Type 0 where
  pub grid_a : a.grid ≡ c.grid
  pub grid_b : b.grid ≡ c.grid
  pub rows : a.desc.m ≡ c.desc.m
  pub row_blocks : a.desc.mb ≡ c.desc.mb
  pub row_source : a.desc.rsrc ≡ c.desc.rsrc
  pub inner : a.desc.n ≡ b.desc.m
  pub inner_blocks : a.desc.nb ≡ b.desc.mb
  pub columns : b.desc.n ≡ c.desc.n
  pub column_blocks : b.desc.nb ≡ c.desc.nb
  pub column_source : b.desc.csrc ≡ c.desc.csrc
  pub rows_said : m ≡ c.desc.m
  pub columns_said : n ≡ c.desc.n
  pub inner_said : k ≡ a.desc.n

-- all of it
pub record IsProductLine (script : List (Option Command)) (files : Matrices) (line m n k alpha : ℕ) (a b : List ℕ) (beta : ℕ) (x : List ℕ) : Type 0 where
  pub own : IsProductJob script files line alpha beta
  pub first : IsMatrixOf script files line a (line_of_a script line)
  pub second : IsMatrixOf script files line b (line_of_b script line)
  pub sum : IsMatrixOf script files line x (line_of_c script line)
  pub aligned : LieAligned (layout (setting_of script files) (line_of_a script line)) (layout (setting_of script files) (line_of_b script line)) (layout (setting_of script files) (line_of_c script line)) m n k
  pub apart_a : line_of_c script line ≢ line_of_a script line
  pub apart_b : line_of_c script line ≢ line_of_b script line

-- ---- the product of a group
-- the topology of a path
abbrev pub topology_of : Path → Topology
topology_of backwards = D
topology_of members = T
topology_of forwards = I
topology_of anywhere = I

-- the product of a group on a line, of matrices that these lines made, by these factors
abbrev pub group_product : Setting → ℕ → ℕ → ℕ → ℕ → ℕ → ℕ → ℕ → GroupProduct
group_product s line line_a line_b line_c alpha beta group = record {
  grid = (layout s line_c).grid;
  a = (layout s line_a).desc;
  b = (layout s line_b).desc;
  c = (layout s line_c).desc;
  line_a = line_a;
  line_b = line_b;
  line_c = line_c;
  group = group;
  alpha = alpha;
  beta = beta;
  topology = topology_of (job s line).path;
}

-- that of the `pgemm` line of a script
abbrev pub line_product : List (Option Command) → Setting → ℕ → ℕ → ℕ → ℕ → GroupProduct
line_product script s line alpha beta group = group_product s line (line_of_a script line) (line_of_b script line) (line_of_c script line) alpha beta group

-- the mark under which a group's phase commits: the line has ended with the last group
abbrev pub product_mark : ℕ → Bool → Mark
product_mark line ended = record { line = line; ended = ended; closed = 0; opened = false; merged = 0 }
