-- The round that makes the code strips of a group anew, from a state of the machine.
use Rattle.std.proofs.Common.{◌≡◌, ◌+◌, ◌*◌, ◌%◌, ◌<◌, ◌==◌, ◌||◌, ℕ, Some, refl, sym, ap, subst, ◌∙◌, arith}
use Rattle.std.proofs.Math.Nat.{mod-mod}
use Rattle.std.proofs.lemmas.Bool.{and_from}
use Rattle.field_core.specs.Sums.{sum_to}
use Rattle.field_core.proofs.Sums.{sum_to-same}
use Rattle.cauchy_code.specs.Cauchy.{weight}
use Rattle.run_data.specs.Matrix.{cols, entry}
use Rattle.run_data.proofs.Matrices.{rows-tabulate, cols-tabulate, entry-tabulate}
use Rattle.blacs_grid.specs.Places.{width, rank_at, is_member}
use Rattle.rank_machine.specs.declared.slot.SlotKind.TheVariants.{Data, Code}
use Rattle.rank_machine.specs.declared.slot.Tile.TheVariants.{Words}
use Rattle.rank_machine.specs.declared.layout.Layout.{Layout}
use Rattle.rank_machine.specs.Setting.{Setting, strip_rows}
use Rattle.rank_machine.specs.State.{State, same_slot}
use Rattle.rank_machine.specs.Effect.{words_of}
use Rattle.rank_machine.specs.CodeLaw.{slot_at, is_strip_of, data_word}
use Rattle.round_laws.specs.Holdings.{Holding, IsBut}
use Rattle.round_laws.specs.Turns.{Replays, on_grid, held_on}
use Rattle.round_laws.proofs.Grids.{grid_replays, grid_turned}
use Rattle.round_laws.proofs.Pieces.{equal}
use Rattle.dist_matrix.specs.Encode.{work_slot, group_events, IsEncodable, coded_strip, IsEncoded, CanEncode, with_code, HasCodeStrips, KeepsElse, KeepsRun}
use Rattle.dist_matrix.proofs.Encoding.{encodes, is_encoded, encoded}

module _ (s : Setting) (st : State) (d : Layout) (line group : ℕ) (can : CanEncode s st d line group) where
  pub ready : IsEncodable d line group (held_on st d.grid)
  ready = record { numbers = λ row col hr hc. refl; strips = can.strips; codes = can.codes; free = can.works }

  -- what the ranks of the grid hold after the round
  abbrev pub held_after : ℕ → ℕ → Holding
  held_after = encoded s st d line group (held_on st d.grid) can.modulus can.own_grid ready can.paths

  -- its records are legal and lead there
  pub encode_replays : Replays s st (is_member d.grid) (group_events s.inverse d line group) (on_grid d.grid held_after)
  encode_replays = grid_replays s st d.grid (group_events s.inverse d line group) held_after can.own_grid can.quiet (encodes s st d line group (held_on st d.grid) can.modulus can.own_grid ready can.paths)

  abbrev now : State
  now = with_code s st d line group

  now_is : (row col : ℕ) → row < d.grid.p → col < width d.grid → held_on now d.grid row col ≡ held_after row col
  now_is row col hr hc = grid_turned s st d.grid (group_events s.inverse d line group) held_after can.own_grid encode_replays row col hr hc

  result : IsEncoded s d line group (held_on st d.grid) held_after
  result = is_encoded s st d line group (held_on st d.grid) can.modulus can.own_grid ready can.paths

  data_stays : (row q : ℕ) → row < d.grid.p → q < d.grid.q → held_on now d.grid row q ≡ held_on st d.grid row q
  data_stays row q hr hq = now_is row q hr (omega arith) ∙ result.strips row q hr hq

  code_now : (row c : ℕ) → row < d.grid.p → c < d.grid.f → now.tiles (rank_at d.grid row (d.grid.q + c)) (slot_at Code line group) ≡ Some (Words (coded_strip s d line group (held_on st d.grid) row c d.grid.q))
  code_now row c hr hc = ap (λ h. h.tiles (slot_at Code line group)) (now_is row (d.grid.q + c) hr (omega arith)) ∙ result.codes row c hr hc

  pub has_code_strips : HasCodeStrips s now d line group
  has_code_strips = record {
    shapes = λ row c hr hc.
        let x = coded_strip s d line group (held_on st d.grid) row c d.grid.q in
        ap (is_strip_of d row) (code_now row c hr hc)
        ∙ and_from (x.rows == strip_rows d row) (cols x == d.desc.nb) (equal x.rows (strip_rows d row) (rows-tabulate (strip_rows d row) d.desc.nb _)) (equal (cols x) d.desc.nb (cols-tabulate (strip_rows d row) d.desc.nb _));
    sums = λ row c i j hr hc hi hj.
        let p = s.modulus in
        let old : ℕ → ℕ = λ q. weight s.inverse d.grid.q c q * entry (words_of (st.tiles (rank_at d.grid row q) (slot_at Data line group))) i j in
        ap (λ o. entry (words_of o) i j % p) (code_now row c hr hc)
        ∙ ap (λ v. v % p) (entry-tabulate (strip_rows d row) d.desc.nb (λ i j. sum_to d.grid.q (λ q. weight s.inverse d.grid.q c q * entry (words_of (st.tiles (rank_at d.grid row q) (slot_at Data line group))) i j) % p) i j hi hj)
        ∙ mod-mod (sum_to d.grid.q old) p
        ∙ ap (λ v. v % p) (sum_to-same d.grid.q old (λ q. weight s.inverse d.grid.q c q * data_word now line d row group q i j)
        (λ q hq. ap (λ h. weight s.inverse d.grid.q c q * entry (words_of (h.tiles (slot_at Data line group))) i j) (sym (data_stays row q hr hq))));
  }

  pub keeps_else : KeepsElse s st now d line group
  keeps_else = record {
    data_ranks = data_stays;
    code_ranks = λ row c hr hc. subst (IsBut (λ x. same_slot x (slot_at Code line group) || same_slot x work_slot) (held_on st d.grid row (d.grid.q + c))) (sym (now_is row (d.grid.q + c) hr (omega arith))) (result.rest row c hr hc);
    other_ranks = encode_replays.kept;
  }

  pub keeps_run : KeepsRun st now
  keeps_run = let r = encode_replays in record { links = r.links; live = r.live; saved = r.saved; mark = r.mark; lost = r.lost; taken = r.taken; committed = r.committed; spawned = r.spawned }
