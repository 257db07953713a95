use Rattle.std.proofs.Common.{ℕ, true, false, ◌≡◌, ◌<◌, ⊎_elim, arith, subst}
use Rattle.std.proofs.lemmas.Bool.{cases_Bool}
use Rattle.rank_run.specs.Machine.{machine}
use Rattle.rank_machine.specs.declared.slot.Slot.{Slot}
use Rattle.rank_machine.specs.Setting.{is_matrix}
use Rattle.rank_slots.specs.Cells.{IsSomeTileOf}
use Rattle.script_lines.proofs.JobAt.{made-positive}
use Rattle.block_world.specs.Replay.{view_of}
use Rattle.block_world.specs.World.{setting_in, state_of}
use Rattle.block_world.proofs.Held.{residues_held}
use Rattle.block_world.proofs.world.World.journal.Goals as goal

pub returns-clause-residues : goal.returns-clause-residues
returns-clause-residues g c =
    let w = c.self.inside in
    let now = view_of w.script.now w.files.now w.keeper in
    let i = c.self.invariant in
    subst (λ v. (rank : ℕ) (slot : Slot) → IsSomeTileOf g.K.Field.MODULUS ((state_of v).tiles rank slot)) c.self.view_is
    (residues_held g.K.Field.MODULUS (setting_in now) i.table (machine w.mems.items w.links) (state_of now) i.stands i.residues)

pub returns-clause-no_line : goal.returns-clause-no_line
returns-clause-no_line g c =
    ⊎_elim
    (λ (made : is_matrix (setting_in c.args.self.now) 0 ≡ true). let some : 0 < 0 = made-positive c.args.self.now.script 0 made in absurd (omega arith))
    (λ (none : is_matrix (setting_in c.args.self.now) 0 ≡ false). none)
    (cases_Bool (is_matrix (setting_in c.args.self.now) 0))
