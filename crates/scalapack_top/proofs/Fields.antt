-- The field of an accepted script is one of two.
use Rattle.std.proofs.Common.{◌≡◌, ◌≢◌, ℕ, List, Option, inl, inr, sym, ◌∙◌}
use Rattle.run_data.specs.declared.command.Command.{Command}
use Rattle.run_data.specs.Script.{commands_of, modulus_of}
use Rattle.script_bounds.specs.Accepted.{IsAccepted}
use Rattle.script_laws.proofs.FieldLines.{accepted-field}

-- where it isn't 65521, it is 65537
pub other_field : (script : List (Option Command)) (p : ℕ) → IsAccepted script → p ≡ modulus_of (commands_of script) → p ≢ 65521 → 65537 ≡ modulus_of (commands_of script)
other_field script p accepted e other =
    elim (accepted-field script accepted.lines) [
      | inl large ↦ sym large
      | inr small ↦ absurd (other (e ∙ small))
    ]
