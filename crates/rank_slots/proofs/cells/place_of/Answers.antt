use Rattle.std.proofs.Common.{rules}
use Rattle.std.proofs.lemmas.List.Sorted.{IsPartitionPoint-from_clause}
use Rattle.rank_slots.specs.declared.cells.Cell.{Cell}
use Rattle.rank_slots.specs.Cells.{is_before}
use Rattle.rank_slots.proofs.PlaceLaws.{parted, place_is}
use Rattle.rank_slots.proofs.cells.place_of.Goals as goal

pub returns : goal.returns
returns c =
    place_is c.args.items.now c.args.slot c.partition_point.result c.partition_point.ensures.bound
    (IsPartitionPoint-from_clause (λ (y : Cell). is_before y.slot c.args.slot) _ _ c.partition_point.ensures.partitioned (parted c.args.items.now c.args.slot c.requires) (λ a r q k. search rules))
