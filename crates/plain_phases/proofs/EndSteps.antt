-- A commit alone.
use Rattle.std.proofs.Common.{ℕ, ◌+◌, refl, sym, ap, subst, arith, false}
use Rattle.rank_machine.specs.declared.mark.Mark.{Mark}
use Rattle.rank_machine.specs.declared.record.Rec.TheVariants as r
use Rattle.rank_machine.specs.Setting.{Setting}
use Rattle.rank_machine.specs.State.{State}
use Rattle.rank_machine.specs.CodeLaw.{CodeLaw}
use Rattle.rank_machine.specs.Effect.{after}
use Rattle.phases.specs.declared.phase.Next.TheVariants as n
use Rattle.phases.specs.Plans.{CanStart, GoesOn}
use Rattle.plain_phases.specs.Ending.{end_plan, end_progress, EndStands}

pub end_goes_on : {K : Type 0} (mark : Mark) (calls : ℕ) (s : Setting) (base now : State) → CanStart (end_plan mark) s base → EndStands s base now → GoesOn {K = K} (end_plan mark) EndStands (end_progress (calls + 1)) s base now n.End
end_goes_on mark calls s base now h e = record {
  goes = record { law = subst (λ st. CodeLaw s st mark) (sym e) h.may.law; effect = (refl, ap (λ st. (after s st (r.Commit mark false)).tiles) e) };
  few = omega arith;
}
