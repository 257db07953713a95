-- Counts of faults, evaluated at numerals.
use Rattle.std.proofs.Common.{◌≡◌, ℕ, [], ◌∷◌, refl}
use Rattle.std.specs.Prelude.{Ok, Err, Vec}
use Rattle.std.specs.declared.alloc.Global.{Global}
use Rattle.io_edge.specs.declared.shelf.ShelfFault.TheVariants.{Failed, TooLong}
use Rattle.io_edge.specs.declared.counts.Counts.{Counts}
use Rattle.io_edge.specs.Counts.{counts_after}
use Rattle.io_edge.specs.MemSink.{SinkState, empty, with_planned, after_put}

-- a put of three bytes where two fit is the only one that fails
puts_past_the_room : (after_put (after_put (after_put (empty 5) (97 ∷ 98 ∷ 99 ∷ [])) (100 ∷ 101 ∷ 102 ∷ [])) []).faults ≡ 1
puts_past_the_room = refl

-- puts 1, 2 and 3 are planned to fail, the first of them twice
unfoldable planned : SinkState
planned = with_planned (with_planned (with_planned (with_planned (empty 6) 1 2) 1 3) 2 9) 3 9

puts_as_planned : (after_put (after_put (after_put (after_put planned (97 ∷ [])) (98 ∷ 99 ∷ 100 ∷ [])) (100 ∷ [])) (101 ∷ 102 ∷ 103 ∷ [])).faults ≡ 3
unfolding planned
puts_as_planned = refl

unfoldable no_count : Counts
no_count = record { faults = 0; longs = 0 }

-- two of five reads fail
reads : (u v w : Vec ℕ Global) → (counts_after (Ok w) (counts_after (Err Failed) (counts_after (Err Failed) (counts_after (Ok v) (counts_after (Ok u) no_count))))).faults ≡ 2
unfolding no_count
reads u v w = refl

-- one of two files is too long
reads_past_the_limit : (v : Vec ℕ Global) → (counts_after (Ok v) (counts_after (Err TooLong) no_count)).longs ≡ 1
unfolding no_count
reads_past_the_limit v = refl
