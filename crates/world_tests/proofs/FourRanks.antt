-- The rounds of the tests may be run on four ranks.
use Rattle.std.proofs.Common.{◌≡◌, ◌≢◌, ◌≤◌, ◌<◌, arith, ℕ, List, [], ◌∷◌, Option, refl, sym, subst, All}
use Rattle.std.proofs.lemmas.Bool.{true≢false}
use Rattle.std.proofs.lemmas.List.Elements.{All-nil, All-cons}
use Rattle.run_data.specs.declared.command.Command.{Command}
use Rattle.run_data.specs.Matrix.{tabulate}
use Rattle.rank_run.specs.declared.round.Event.{Event}
use Rattle.rank_run.specs.Parts.{IsWithin}
use Rattle.rank_machine.specs.declared.slot.Tile.{Tile}
use Rattle.rank_machine.specs.declared.slot.Piece.{Piece}
use Rattle.rank_machine.specs.declared.kernel.Kernel.{Kernel}
use Rattle.rank_machine.specs.declared.record.Loss.{Loss}
use Rattle.rank_machine.specs.Scripts.{Matrices, setting_of}
use Rattle.rank_machine.specs.State.{opened}
use Rattle.rank_machine.proofs.Agree.{IsLegalFrom-from_test}
use Rattle.script_lines.specs.Layouts.{AreGrids}
use Rattle.script_lines.specs.Sound.{IsSound}
use Rattle.rank_slots.specs.Rank.{Rank}
use Rattle.rank_slots.specs.Stands.{records_of}
use Rattle.world_tests.specs.FourRanks.{lines, two_moves, round_trip, CanRunRound}

one_grid : AreGrids (record { p = 2; q = 2; f = 0; first = 0 } ∷ [])
one_grid = (record { some_rows = omega arith; rows = omega arith; some_columns = omega arith; columns = omega arith; code_columns = omega arith; ranks = omega arith }, tt)

-- no line makes a matrix or has a scalar
sound : (files : Matrices) (capacity : ℕ) → 1 ≤ capacity → capacity ≤ 64 → IsSound 65537 (setting_of (lines capacity) files)
unfolding lines
sound files capacity some most = record {
  modulus = refl;
  large = omega arith;
  grids = one_grid;
  layouts = λ line h. absurd (true≢false (sym h));
  files = λ line h. absurd (true≢false (sym h));
  scalars = λ line. All-nil (λ a. a < 65537);
  some_messages = some;
  messages = most;
  of_ranks = All-nil (λ (l : Loss). l.rank < 4);
}

-- each event in its turn
abbrev Each : ℕ → List (Event Rank Kernel Piece Tile) → Type 0
Each n [] = Unit {0}
Each n (e ∷ es) = IsWithin n e × Each n es

each_all : (n : ℕ) (es : List (Event Rank Kernel Piece Tile)) → Each n es → All (IsWithin n) es
each_all n [] h = All-nil (IsWithin n)
each_all n (e ∷ es) h = All-cons (IsWithin n) e es h.0 (each_all n es h.1)

within_moves : All (IsWithin 4) two_moves
unfolding two_moves
within_moves = each_all 4 two_moves (omega arith, ((λ h. absurd (omega (arith, h)), omega arith, omega arith), ((λ h. absurd (omega (arith, h)), omega arith, omega arith), tt)))

within_trip : All (IsWithin 4) round_trip
unfolding round_trip
within_trip = each_all 4 round_trip (omega arith, ((λ h. absurd (omega (arith, h)), omega arith, omega arith), (omega arith, ((λ h. absurd (omega (arith, h)), omega arith, omega arith), ((λ h. absurd (omega (arith, h)), omega arith, omega arith), ((λ h. absurd (omega (arith, h)), omega arith, omega arith), tt))))))

narrow_moves : (files : Matrices) → CanRunRound (lines 1) files two_moves
unfolding tabulate lines two_moves
narrow_moves files = record {
  sound = sound files 1 (omega arith) (omega arith);
  losses = refl;
  ranks = within_moves;
  legal = IsLegalFrom-from_test (setting_of (lines 1) files) [] (opened (setting_of (lines 1) files)) (records_of two_moves) tt refl;
}

wide_moves : (files : Matrices) → CanRunRound (lines 2) files two_moves
unfolding tabulate lines two_moves
wide_moves files = record {
  sound = sound files 2 (omega arith) (omega arith);
  losses = refl;
  ranks = within_moves;
  legal = IsLegalFrom-from_test (setting_of (lines 2) files) [] (opened (setting_of (lines 2) files)) (records_of two_moves) tt refl;
}

narrow_trip : (files : Matrices) → CanRunRound (lines 1) files round_trip
unfolding tabulate lines round_trip
narrow_trip files = record {
  sound = sound files 1 (omega arith) (omega arith);
  losses = refl;
  ranks = within_trip;
  legal = IsLegalFrom-from_test (setting_of (lines 1) files) [] (opened (setting_of (lines 1) files)) (records_of round_trip) tt refl;
}

wide_trip : (files : Matrices) → CanRunRound (lines 3) files round_trip
unfolding tabulate lines round_trip
wide_trip files = record {
  sound = sound files 3 (omega arith) (omega arith);
  losses = refl;
  ranks = within_trip;
  legal = IsLegalFrom-from_test (setting_of (lines 3) files) [] (opened (setting_of (lines 3) files)) (records_of round_trip) tt refl;
}

-- ---- for the script and the round of a test
as_is : (script lines' : List (Option Command)) (files : Matrices) (es es' : List (Event Rank Kernel Piece Tile)) → script ≡ lines' → es ≡ es' → CanRunRound lines' files es' → CanRunRound script files es
as_is script lines' files es es' e f h = subst (λ (y : List (Option Command) × List (Event Rank Kernel Piece Tile)). CanRunRound y.0 files y.1) (sym (λ i. (e i, f i))) h

pub moves_narrow : (script : List (Option Command)) (files : Matrices) (es : List (Event Rank Kernel Piece Tile)) → script ≡ lines 1 → es ≡ two_moves → CanRunRound script files es
moves_narrow script files es e f = as_is script (lines 1) files es two_moves e f (narrow_moves files)

pub moves_wide : (script : List (Option Command)) (files : Matrices) (es : List (Event Rank Kernel Piece Tile)) → script ≡ lines 2 → es ≡ two_moves → CanRunRound script files es
moves_wide script files es e f = as_is script (lines 2) files es two_moves e f (wide_moves files)

pub trip_narrow : (script : List (Option Command)) (files : Matrices) (es : List (Event Rank Kernel Piece Tile)) → script ≡ lines 1 → es ≡ round_trip → CanRunRound script files es
trip_narrow script files es e f = as_is script (lines 1) files es round_trip e f (narrow_trip files)

pub trip_wide : (script : List (Option Command)) (files : Matrices) (es : List (Event Rank Kernel Piece Tile)) → script ≡ lines 3 → es ≡ round_trip → CanRunRound script files es
trip_wide script files es e f = as_is script (lines 3) files es round_trip e f (wide_trip files)
