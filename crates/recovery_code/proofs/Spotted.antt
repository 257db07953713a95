-- The events of a spot under a mark are those of a recovery's round.
use Rattle.std.proofs.Common.{◌≡◌, ◌++◌, ℕ, List, Bool, refl}
use Rattle.rank_machine.specs.declared.mark.Mark.{Mark}
use Rattle.rank_machine.specs.Setting.{Setting, layout}
use Rattle.rank_machine.specs.State.{State}
use Rattle.rank_machine.specs.Legal.{lost_columns}
use Rattle.recovery_rounds.specs.Mending.{row_data_events, row_code_events}
use Rattle.recovery_rounds.specs.Rows.{row_events}
use Rattle.recovery_code.specs.Spots.{spot_under, row_data_at, row_code_at}

pub data_is : (s : Setting) (mark : Mark) (line row group : ℕ) (lost : List Bool) (coefs : ℕ → List ℕ) → row_data_at (spot_under s mark line row group) lost coefs (layout s line).grid.q ≡ row_data_events s mark line (layout s line) row group lost coefs
data_is s mark line row group lost coefs = refl

pub code_is : (s : Setting) (mark : Mark) (line row group : ℕ) (lost : List Bool) → row_code_at s.inverse (spot_under s mark line row group) lost (layout s line).grid.f ≡ row_code_events s mark line (layout s line) row group lost
code_is s mark line row group lost = refl

-- so what the code appends is the round that the laws of a recovery speak of
pub row_is : (s : Setting) (st now : State) (line row group : ℕ) (coefs : ℕ → List ℕ) → (let lost = lost_columns now (layout s line).grid row in
    row_data_at (spot_under s st.mark line row group) lost coefs (layout s line).grid.q ++ row_code_at s.inverse (spot_under s st.mark line row group) lost (layout s line).grid.f ≡ row_events s st now line row group coefs)
row_is s st now line row group coefs = refl
