-- A journal, the room that is left in it, and the losses that fall in it.
use Rattle.std.specs.Prelude.{ℕ, Bool, ◌-◌, List, [], ◌∷◌, ◌++◌}
use Rattle.rank_machine.specs.declared.record.Rec.{Rec}
use Rattle.rank_machine.specs.declared.record.Loss.{Loss}
use Rattle.rank_machine.specs.Losses.{falls}
use Rattle.run_laws.specs.Due.{numbered, is_due_in}

pub record Log : Type 0 where
  -- in script order
  pub losses : List Loss
  pub journal : List Rec
  -- for how many more numbered records there is room
  pub room : ℕ

-- the log with one more numbered record at its end
abbrev pub recorded : Log → Rec → Log
recorded log r = record log { journal = log.journal ++ r ∷ []; room = log.room - 1 }

-- a loss is due before the next record
abbrev pub is_due_next : Log → Bool
is_due_next log = is_due_in log.losses log.journal

-- the log with the losses of the next record at its end
abbrev pub with_falls_next : Log → Log
with_falls_next log = record log { journal = log.journal ++ falls log.losses (numbered log.journal) }

-- the log of a journal without records, with room for so many
abbrev pub empty_log : List Loss → ℕ → Log
empty_log losses room = record { losses = losses; journal = []; room = room }
