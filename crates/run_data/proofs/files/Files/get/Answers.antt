use Rattle.std.proofs.Common.{ap, sym, ◌∙◌}
use Rattle.std.specs.Ordering.{nat_cmp}
use Rattle.std.specs.Cmp.{nat_cmp_total}
use Rattle.std.specs.FinMap.{get, find, get-from_entries}
use Rattle.run_data.specs.Files.{pairs_of}
use Rattle.run_data.proofs.files.Files.get.Goals as goal

pub returns : goal.returns
returns c =
    c.find.ensures
    ∙ ap (λ es. find nat_cmp c.args.line (pairs_of es)) c.deref.ensures.value
    ∙ sym (get-from_entries nat_cmp_total _ _)
    ∙ ap (λ m. get m c.args.line) c.self.view_is
