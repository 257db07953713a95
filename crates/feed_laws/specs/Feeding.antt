-- A phase that brings a matrix from a file.
use Rattle.std.specs.Prelude.{◌≡◌, ◌≢◌, ℕ, ◌+◌, ◌-◌, ◌*◌, ◌/◌, ◌%◌, ◌<◌, ◌≤◌, ◌&&◌, ◌||◌, ◌==◌, Bool, true, false, min, nat_lt, if◌then◌else◌, List, [], Some, None, IsTrue}
use Rattle.run_data.specs.Matrix.{Matrix}
use Rattle.blacs_grid.specs.Places.{rank_at, row_of, is_data_rank, is_code_rank}
use Rattle.rank_machine.specs.declared.slot.Slot.{Slot}
use Rattle.rank_machine.specs.declared.slot.SlotKind.TheVariants.{Data, Code}
use Rattle.rank_machine.specs.declared.slot.Tile.TheVariants.{Words}
use Rattle.rank_machine.specs.declared.layout.Layout.{Layout}
use Rattle.rank_machine.specs.Setting.{Setting, anywhere, job, layout, is_matrix, factored, group_count, strip_rows, strip_of}
use Rattle.rank_machine.specs.State.{State, Took, same_kind, same_slot, end_mark}
use Rattle.rank_machine.specs.Effect.{is_live, is_dropped}
use Rattle.rank_machine.specs.Held.{size_of}
use Rattle.rank_machine.specs.CodeLaw.{slot_at}
use Rattle.rank_machine.specs.Marks.{follows}
use Rattle.script_lines.specs.Layouts.{IsLayout}
use Rattle.dist_matrix.specs.Strips.{HasShape, NamesStrip}
use Rattle.round_laws.specs.Holdings.{holding, may_put}
use Rattle.round_laws.specs.Turns.{IsGridOf}
use Rattle.run_laws.specs.LastCommit.{IsScripted, with_spawned}
use Rattle.dist_matrix.specs.Encode.{work_slot, group_events, HasCodeStrips}
use Rattle.run_laws.specs.NextMark.{JobsRise}
use Rattle.phase_frames.specs.Touching.{IsCapped}
use Rattle.phases.specs.declared.phase.Next.{Next}
use Rattle.phases.specs.declared.phase.Next.TheVariants as n
use Rattle.phases.specs.Plans.{Plan, Progress, IgnoresSpawns}

pub record FeedView : Type 0 where
  pub file : Matrix
  pub layout : Layout
  pub line : ℕ
  pub calls : ℕ

-- a layout within the limits, and a matrix of its shape
pub record IsFeedable (d : Layout) (file : Matrix) : Type 0 where
  pub laid_out : IsLayout d
  pub whole : HasShape d file

-- ---- the answers
-- how many strips are fed, and how many rounds follow
abbrev pub feeds : Layout → ℕ
feeds d = group_count d * d.grid.p * d.grid.q

abbrev pub rounds : Layout → ℕ
rounds d = if d.grid.f == 0 then 0 else group_count d

-- the number of a strip, by rising groups and in each the data ranks row by row
abbrev pub strip_number : Layout → ℕ → ℕ → ℕ → ℕ
strip_number d group row col = (group * d.grid.p + row) * d.grid.q + col

-- the strip of a number
abbrev pub feed_at : {K : Type 0} → Layout → Matrix → ℕ → ℕ → Next K
feed_at d file line i =
    let rank = rank_at d.grid (i / d.grid.q % d.grid.p) (i % d.grid.q) in
    n.Feed rank (slot_at Data line (i / d.grid.q / d.grid.p)) (strip_of d file rank (i / d.grid.q / d.grid.p))

abbrev pub code_of : {K : Type 0} → (ℕ → ℕ) → Layout → ℕ → ℕ → Next K
code_of inverse d line group = n.Round (group_events inverse d line group)

abbrev pub answer_of : {K : Type 0} → (ℕ → ℕ) → Layout → Matrix → ℕ → ℕ → Next K
answer_of inverse d file line calls =
    if nat_lt calls (feeds d) then feed_at d file line calls else (if nat_lt (calls - feeds d) (rounds d) then code_of inverse d line (calls - feeds d) else n.End)

-- how many records a round makes, and so many calls
abbrev pub steps_of_round : Layout → ℕ
steps_of_round d = d.grid.p * (d.grid.f * (1 + 3 * d.grid.q))

abbrev pub records_after : Layout → ℕ → ℕ
records_after d calls = min calls (feeds d) + min (calls - feeds d) (rounds d) * steps_of_round d

abbrev pub feed_progress : Layout → ℕ → Progress
feed_progress d calls = record { takes = []; asked = None; nexts = calls; records = records_after d calls; ended = nat_lt (feeds d + rounds d) calls }

-- ---- the task
pub record FeedTask : Type 0 where
  pub inverse : ℕ → ℕ
  pub file : Matrix
  pub layout : Layout
  pub line : ℕ

abbrev pub feed_task : (ℕ → ℕ) → Matrix → Layout → ℕ → FeedTask
feed_task inverse file layout line = record { inverse = inverse; file = file; layout = layout; line = line }

-- The line comes next, makes this matrix from this file on a grid of the run, factors and drops nothing, and nothing drops what it is to make. The script is one.
pub record MayFeed (s : Setting) (base : State) (t : FeedTask) : Type 0 where
  pub follows_last : IsTrue (follows s base.mark (end_mark t.line))
  pub matrix : is_matrix s t.line ≡ true
  pub lies : layout s t.line ≡ t.layout
  pub file : s.files t.line ≡ t.file
  pub inverses : s.inverse ≡ t.inverse
  pub some_words : 0 < s.modulus
  pub some_messages : 0 < s.capacity
  pub feedable : IsFeedable t.layout t.file
  pub of : IsGridOf s t.layout.grid
  pub plain : factored s t.line ≡ 0
  pub goes : (job s t.line).path ≡ anywhere
  pub undropped : is_dropped s (end_mark t.line) t.line ≡ false
  pub scripted : IsScripted s
  pub rising : JobsRise 0 s.jobs

-- The data ranks hold the strips of the file's matrix, everything else that is live is as it was, and nothing was taken.
pub record HasFed (s : Setting) (base : State) (t : FeedTask) (takes : List Took) (new : State) : Type 0 where
  pub takes_none : takes ≡ []
  pub strips : (rank group : ℕ) → NamesStrip t.layout rank group → new.tiles rank (slot_at Data t.line group) ≡ Some (Words (strip_of t.layout t.file rank group))
  pub rest : (rank : ℕ) (slot : Slot) → slot.id ≢ t.line → is_live s (end_mark t.line) rank slot ≡ true → new.tiles rank slot ≡ base.tiles rank slot

-- ---- words
-- of a strip on a rank
abbrev pub strip_words : Layout → ℕ → ℕ
strip_words d rank = strip_rows d (row_of d.grid rank) * d.desc.nb

-- the cells of the matrix on a data rank, and a strip more on a code rank
abbrev pub feed_words : Layout → ℕ → ℕ
feed_words d rank = if is_data_rank d.grid rank then strip_words d rank * group_count d else (if is_code_rank d.grid rank then strip_words d rank * group_count d + strip_words d rank else 0)

-- exactly PG(Q + F(3Q + 1)) + 1 records
abbrev pub feed_records : Layout → ℕ
feed_records d = d.grid.p * group_count d * (d.grid.q + d.grid.f * (3 * d.grid.q + 1)) + 1

abbrev pub feed_plan : FeedTask → Plan
feed_plan t = record {
  MayDrive = λ s base. MayFeed s base t;
  Effect = λ s base takes new. HasFed s base t takes new;
  listed = [];
  mark = end_mark t.line;
  most_nexts = feeds t.layout + rounds t.layout + 1;
  most_records = feed_records t.layout;
  most_words = feed_words t.layout;
}

pub feed_ignores_spawns : (x : FeedTask) → IgnoresSpawns (feed_plan x)
feed_ignores_spawns x = record {
  may = λ s base n h. record {
    follows_last = h.follows_last;
    matrix = h.matrix;
    lies = h.lies;
    file = h.file;
    inverses = h.inverses;
    some_words = h.some_words;
    some_messages = h.some_messages;
    feedable = h.feedable;
    of = h.of;
    plain = h.plain;
    goes = h.goes;
    undropped = h.undropped;
    scripted = h.scripted;
    rising = h.rising;
  };
  effect = λ s base now takes n h. record { takes_none = h.takes_none; strips = h.strips; rest = h.rest };
}

-- ---- between two answers
-- the slots that get tiles
abbrev pub is_own : FeedTask → ℕ → Slot → Bool
is_own t rank slot =
    (is_data_rank t.layout.grid rank && (same_kind slot.kind Data && ((slot.id == t.line) && nat_lt slot.group (group_count t.layout))))
    || (is_code_rank t.layout.grid rank && ((same_kind slot.kind Code && ((slot.id == t.line) && nat_lt slot.group (group_count t.layout))) || same_slot slot work_slot))

-- the most words of any slot
abbrev pub feed_cap : FeedTask → State → ℕ → Slot → ℕ
feed_cap t base rank slot = size_of (base.tiles rank slot) + (if is_own t rank slot then strip_words t.layout rank else 0)

pub record FeedStands (t : FeedTask) (calls : ℕ) (s : Setting) (base now : State) : Type 0 where
  pub live : now.live ≡ base.live
  pub saved : now.saved ≡ base.saved
  pub mark : now.mark ≡ base.mark
  pub lost : now.lost ≡ base.lost
  pub links : (from to : ℕ) → now.links from to ≡ []
  -- the first strips are there, the others not yet
  pub fed : (group row col : ℕ) → group < group_count t.layout → row < t.layout.grid.p → col < t.layout.grid.q → strip_number t.layout group row col < calls
      → now.tiles (rank_at t.layout.grid row col) (slot_at Data t.line group) ≡ Some (Words (strip_of t.layout t.file (rank_at t.layout.grid row col) group))
  pub unfed : (group row col : ℕ) → group < group_count t.layout → row < t.layout.grid.p → col < t.layout.grid.q → calls ≤ strip_number t.layout group row col
      → now.tiles (rank_at t.layout.grid row col) (slot_at Data t.line group) ≡ None
  -- the first groups are coded, and the code strips of the others may be made
  pub coded : (group : ℕ) → group < group_count t.layout → feeds t.layout + group < calls → HasCodeStrips s now t.layout t.line group
  pub uncoded : (group row c : ℕ) → group < group_count t.layout → row < t.layout.grid.p → c < t.layout.grid.f → calls ≤ feeds t.layout + group
      → may_put (holding now (rank_at t.layout.grid row (t.layout.grid.q + c))) (slot_at Code t.line group) ≡ true
  pub works : (row c : ℕ) → row < t.layout.grid.p → c < t.layout.grid.f → may_put (holding now (rank_at t.layout.grid row (t.layout.grid.q + c))) work_slot ≡ true
  -- nothing else has changed, and no slot has more words than it may
  pub rest : (rank : ℕ) (slot : Slot) → is_own t rank slot ≡ false → now.tiles rank slot ≡ base.tiles rank slot
  pub capped : IsCapped (feed_cap t base) now.tiles
