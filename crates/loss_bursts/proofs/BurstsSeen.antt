-- Two lists of losses, and their bursts.
use Rattle.std.proofs.Common.{◌≡◌, ℕ, List, [], ◌∷◌, ◌++◌, refl, sym, ap, ◌∙◌, arith}
use Rattle.field_core.specs.Sums.{sum_to}
use Rattle.blacs_grid.specs.declared.Grid.{Grid}
use Rattle.rank_machine.specs.declared.record.Loss.{Loss}
use Rattle.loss_bursts.specs.Bursts.{in_time, AreClose, IsBurst, hits_in}
use Rattle.loss_bursts.proofs.Bursts.{no_nil, same_head, push_not_nil}
use Rattle.loss_bursts.proofs.Scanned.{last_at, last_push}

abbrev loss : ℕ → ℕ → Loss
loss at rank = record { at = at; rank = rank }

-- `lose 9 4`, `lose 1 0`, `lose 4 2`, `lose 4 0`, where a recovery takes at most 3 records: the first three are one burst, since 4 is within 3 of 1, and the last is another
abbrev apart : List Loss
apart = loss 9 4 ∷ loss 1 0 ∷ loss 4 2 ∷ loss 4 0 ∷ []

sorted : in_time apart ≡ loss 1 0 ∷ loss 4 2 ∷ loss 4 0 ∷ loss 9 4 ∷ []
sorted = refl

first_burst : IsBurst 3 apart (loss 1 0 ∷ loss 4 2 ∷ loss 4 0 ∷ [])
first_burst = record {
  before = [];
  later = loss 9 4 ∷ [];
  part = refl;
  some = λ e. no_nil (loss 1 0) (loss 4 2 ∷ loss 4 0 ∷ []) (sym e);
  close = (omega arith, (omega arith, tt));
  first = λ rest l e _. push_not_nil rest l e;
  last = λ rest l e h. absurd (omega (arith, h.1.1.0, same_head (loss 9 4) l [] rest e));
}

last_burst : IsBurst 3 apart (loss 9 4 ∷ [])
last_burst = record {
  before = loss 1 0 ∷ loss 4 2 ∷ loss 4 0 ∷ [];
  later = [];
  part = refl;
  some = λ e. no_nil (loss 9 4) [] (sym e);
  close = tt;
  first = λ rest l e h. absurd (omega (arith, h.0, ap last_at e ∙ last_push rest l));
  last = λ rest l e _. no_nil l rest e;
}

-- the part from 4 to 4 alone is none, since `lose 1 0` makes it longer
no_burst : (before later : List Loss) → in_time apart ≡ before ++ ((loss 4 2 ∷ loss 4 0 ∷ []) ++ later) → before ≡ loss 1 0 ∷ [] → ((rest : List Loss) (l : Loss) → before ≡ rest ++ l ∷ [] → AreClose 3 (l ∷ loss 4 2 ∷ loss 4 0 ∷ []) → ⊥) → ⊥
no_burst before later part is longest = longest [] (loss 1 0) is (omega arith, (omega arith, tt))

-- with 5 records for a recovery they are one burst, in which rank 0 is hit twice and counts once: on a grid of 1 by 5 data ranks and a code rank 3 different ranks of the row are lost
abbrev grid : Grid
grid = record { p = 1; q = 5; f = 1; first = 0 }

one_burst : IsBurst 5 apart (loss 1 0 ∷ loss 4 2 ∷ loss 4 0 ∷ loss 9 4 ∷ [])
one_burst = record {
  before = [];
  later = [];
  part = refl;
  some = λ e. no_nil (loss 1 0) (loss 4 2 ∷ loss 4 0 ∷ loss 9 4 ∷ []) (sym e);
  close = (omega arith, (omega arith, (omega arith, tt)));
  first = λ rest l e _. push_not_nil rest l e;
  last = λ rest l e _. no_nil l rest e;
}

three_hit : hits_in (loss 1 0 ∷ loss 4 2 ∷ loss 4 0 ∷ loss 9 4 ∷ []) grid 0 ≡ 3
unfolding sum_to
three_hit = refl
