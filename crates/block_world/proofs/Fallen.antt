-- A world after losses.
use Rattle.std.proofs.Common.{◌≡◌, ◌≢◌, ◌+◌, ◌*◌, ◌<◌, ◌≤◌, ◌==◌, ◌||◌, ◌++◌, ◌⊎◌, ℕ, zero, suc, Bool, true, false, List, [], ◌∷◌, length, refl, sym, ap, subst, ◌∙◌, ⊎_elim, inl, inr, All, arith}
use Rattle.std.specs.Prelude.{if◌then◌else◌}
use Rattle.std.proofs.lemmas.Bool.{cases_Bool, lt-ltb}
use Rattle.std.proofs.lemmas.Bool.Decides.{eqb_tells}
use Rattle.std.proofs.lemmas.List.{length-set}
use Rattle.std.proofs.lemmas.List.Elements.{All-nil, All-set, All-head, All-tail}
use Rattle.rank_link.specs.Traffic.{Traffic, messages, with_messages}
use Rattle.rank_run.specs.Machine.{Machine, machine}
use Rattle.rank_run.specs.Rounds.{on_rank}
use Rattle.rank_run.proofs.OnLinks.{IsAmong, among_after, messages-with_same, messages-with_other}
use Rattle.rank_run.proofs.Ranks.{pair_tells}
use Rattle.rank_machine.specs.declared.slot.Tile.{Tile}
use Rattle.rank_machine.specs.declared.mark.Mark.{Mark}
use Rattle.rank_machine.specs.declared.record.Rec.TheVariants as r
use Rattle.rank_machine.specs.declared.record.Loss.{Loss}
use Rattle.rank_machine.specs.Setting.{Setting, ranks}
use Rattle.rank_machine.specs.State.{State, opened}
use Rattle.rank_machine.specs.Effect.{after, replay}
use Rattle.rank_machine.specs.Legal.{IsLegalFrom}
use Rattle.rank_machine.specs.Losses.{falls}
use Rattle.script_lines.specs.declared.lines.Line.{Line}
use Rattle.rank_slots.specs.Cells.{IsTileOf}
use Rattle.rank_slots.specs.Rank.{Rank}
use Rattle.rank_slots.specs.Lost.{lost_rank}
use Rattle.rank_slots.specs.Stands.{Stands, AreResidues}
use Rattle.rank_slots.proofs.Losses.{AreCut, stands-lost, residues-lost}
use Rattle.rank_slots.proofs.Steps.{links-among}
use Rattle.run_laws.specs.Due.{numbered}
use Rattle.block_world.specs.Ranks.{cut_to, cut_off, flagged, mems_after, links_after, flags_after}
use Rattle.std.specs.Prelude.{Option}
use Rattle.run_data.specs.declared.command.Command.{Command}
use Rattle.rank_machine.specs.Scripts.{Matrices, setting_of}
use Rattle.block_world.specs.Log.{Log, with_falls_next}
use Rattle.block_world.specs.Replay.{view_of, AreFlags, IsReplay}
use Rattle.block_world.specs.World.{WorldView, setting_in, state_of, is_due, fallen}
use Rattle.block_world.proofs.Falling.{cut_off-sides, cut_to-capacity, flag_at-flagged}
use Rattle.block_world.proofs.InPlace.{in_place-falls}
use Rattle.block_world.proofs.Journals.{replay-append, IsLegalFrom-append}

-- ---- messages from and to a rank go
module _ (n : ℕ) where
  cut_to-among : (rank k : ℕ) (l : Traffic Tile) → IsAmong n l → IsAmong n (cut_to rank k l)
  cut_to-among rank zero l h = h
  cut_to-among rank (suc k) l h = among_after n (with_messages (cut_to rank k l) rank k []) k rank [] (among_after n (cut_to rank k l) rank k [] (cut_to-among rank k l h))

  cut_to-pairs : (rank k : ℕ) (l : Traffic Tile) → length (cut_to rank k l).lists ≡ length l.lists
  cut_to-pairs rank zero l = refl
  cut_to-pairs rank (suc k) l =
      let l1 = cut_to rank k l in
      let l2 = with_messages l1 rank k [] in
      length-set l2.lists (k * l2.ranks + rank) [] ∙ length-set l1.lists (rank * l1.ranks + k) [] ∙ cut_to-pairs rank k l

  cut_to-keeps : (p rank k : ℕ) (l : Traffic Tile) → All (λ ts. All (IsTileOf p) ts) l.lists → All (λ ts. All (IsTileOf p) ts) (cut_to rank k l).lists
  cut_to-keeps p rank zero l h = h
  cut_to-keeps p rank (suc k) l h =
      let l1 = cut_to rank k l in
      let l2 = with_messages l1 rank k [] in
      let P = λ (ts : List Tile). All (IsTileOf p) ts in
      All-set P l2.lists (k * l2.ranks + rank) [] (All-nil (IsTileOf p)) (All-set P l1.lists (rank * l1.ranks + k) [] (All-nil (IsTileOf p)) (cut_to-keeps p rank k l h))

  -- a link that is emptied is empty, and one that is empty stays so
  emptied : (l : Traffic Tile) (f t a b : ℕ) → IsAmong n l → f < n → t < n → b < n → messages l a b ≡ [] → messages (with_messages l f t []) a b ≡ []
  emptied l f t a b among p q u h =
      elim (pair_tells a f b t) [
        | inl g ↦ (λ i. messages (with_messages l f t []) (g.1 i) (g.2 i)) ∙ messages-with_same n l f t [] among p q
        | inr g ↦ messages-with_other n l f t a b [] among q u g.1 ∙ h
      ]

  below_suc : (a k : ℕ) → a < suc k → (a < k) ⊎ (a ≡ k)
  below_suc a k lt = elim (eqb_tells a k) [ inl p ↦ inr p.1 | inr p ↦ (let ne : a ≢ k = p.1 in inl (omega arith)) ]

  from_it : (rank k : ℕ) (l : Traffic Tile) → IsAmong n l → rank < n → k ≤ n → (b : ℕ) → b < k → messages (cut_to rank k l) rank b ≡ []
  from_it rank zero l among p le b lt = absurd (omega (arith, lt))
  from_it rank (suc k) l among p le b lt =
      let l1 = cut_to rank k l in
      let in1 = cut_to-among rank k l among in
      let l2 = with_messages l1 rank k [] in
      let in2 = among_after n l1 rank k [] in1 in
      let q : k < n = omega (arith, le) in
      let u : b < n = omega (arith, lt, le) in
      emptied l2 k rank rank b in2 q p u
      (elim (below_suc b k lt) [
        | inl m ↦ emptied l1 rank k rank b in1 p q u (from_it rank k l among p (omega (arith, le)) b m)
        | inr e ↦ ap (messages l2 rank) e ∙ messages-with_same n l1 rank k [] in1 p q
      ])

  to_it : (rank k : ℕ) (l : Traffic Tile) → IsAmong n l → rank < n → k ≤ n → (a : ℕ) → a < k → messages (cut_to rank k l) a rank ≡ []
  to_it rank zero l among p le a lt = absurd (omega (arith, lt))
  to_it rank (suc k) l among p le a lt =
      let l1 = cut_to rank k l in
      let in1 = cut_to-among rank k l among in
      let l2 = with_messages l1 rank k [] in
      let in2 = among_after n l1 rank k [] in1 in
      let q : k < n = omega (arith, le) in
      elim (below_suc a k lt) [
        | inl m ↦ emptied l2 k rank a rank in2 q p p (emptied l1 rank k a rank in1 p q p (to_it rank k l among p (omega (arith, le)) a m))
        | inr e ↦ ap (λ (v : ℕ). messages (with_messages l2 k rank []) v rank) e ∙ messages-with_same n l2 k rank [] in2 q p
      ]

  elsewhere : (rank k : ℕ) (l : Traffic Tile) → IsAmong n l → rank < n → k ≤ n → (a b : ℕ) → b < n → a ≢ rank → b ≢ rank → messages (cut_to rank k l) a b ≡ messages l a b
  elsewhere rank zero l among p le a b u na nb = refl
  elsewhere rank (suc k) l among p le a b u na nb =
      let l1 = cut_to rank k l in
      let in1 = cut_to-among rank k l among in
      let l2 = with_messages l1 rank k [] in
      let in2 = among_after n l1 rank k [] in1 in
      let q : k < n = omega (arith, le) in
      messages-with_other n l2 k rank a b [] in2 p u (λ _ e. nb e)
      ∙ messages-with_other n l1 rank k a b [] in1 q u (λ e _. na e)
      ∙ elsewhere rank k l among p (omega (arith, le)) a b u na nb

  pub cut-is : (rank : ℕ) (l : Traffic Tile) → IsAmong n l → rank < n → AreCut n rank l (cut_off rank l)
  cut-is rank l among p =
      let le : l.ranks ≤ n = (let e = among.ranks in omega (arith, e)) in
      let up : (a : ℕ) → a < n → a < l.ranks = λ a lt. (let e = among.ranks in omega (arith, e, lt)) in
      record {
        sides = cut_off-sides rank l;
        pairs = cut_to-pairs rank l.ranks l;
        capacity = cut_to-capacity rank l.ranks l;
        messages_are = λ a b u v.
            elim (eqb_tells a rank) [
              | inl g ↦ ap (λ (c : ℕ). messages (cut_off rank l) c b) g.1 ∙ from_it rank l.ranks l among p le b (up b v) ∙ sym (ap (λ (c : Bool). if c || (b == rank) then [] else messages l a b) g.0)
              | inr g ↦
                  elim (eqb_tells b rank) [
                    | inl e ↦ ap (messages (cut_off rank l) a) e.1 ∙ to_it rank l.ranks l among p le a (up a u) ∙ sym (λ i. if g.0 i || e.0 i then [] else messages l a b)
                    | inr e ↦ elsewhere rank l.ranks l among p le a b v g.1 e.1 ∙ sym (λ i. if g.0 i || e.0 i then [] else messages l a b)
                  ]
            ];
        keeps = λ m h. cut_to-keeps m rank l.ranks l h;
      }

-- ---- one loss after another
-- memories, links and flags are those of a state
pub record AreOf (s : Setting) (p : ℕ) (table : List Line) (ms : List Rank) (links : Traffic Tile) (bs : List Bool) (st : State) : Type 0 where
  pub stands : Stands s table (machine ms links) st
  pub residues : AreResidues p (machine ms links)
  pub flags : AreFlags s st bs

module _ (s : Setting) (p : ℕ) (table : List Line) where
  one_lost : (ms : List Rank) (links : Traffic Tile) (bs : List Bool) (st : State) (rank : ℕ) → rank < ranks s → AreOf s p table ms links bs st → AreOf s p table (on_rank ms rank lost_rank) (cut_off rank links) (flagged bs rank) (after s st (r.Lose rank))
  one_lost ms links bs st rank lt h =
      let x = machine ms links in
      let cut = cut-is (ranks s) rank links (links-among s table x st h.stands) lt in
      record {
        stands = stands-lost s table x st rank (cut_off rank links) cut h.stands;
        residues = residues-lost p (ranks s) x rank (cut_off rank links) cut h.residues;
        flags = record {
          count = length-set bs rank true ∙ h.flags.count;
          same = λ a.
              flag_at-flagged bs rank a (let e = h.flags.count in omega (arith, e, lt))
              ∙ ap (λ (b : Bool). if a == rank then true else b) (h.flags.same a);
        };
      }

  pub all_lost : (ls : List Loss) (n : ℕ) (ms : List Rank) (links : Traffic Tile) (bs : List Bool) (st : State) → All (λ (l : Loss). l.rank < ranks s) ls → AreOf s p table ms links bs st
      → AreOf s p table (mems_after ls n ms) (links_after ls n links) (flags_after ls n bs) (replay s st (falls ls n))
  all_lost [] n ms links bs st there h = h
  all_lost (l ∷ ls) n ms links bs st there h =
      let rest = All-tail (λ (l : Loss). l.rank < ranks s) l ls there in
      ⊎_elim
      (λ (e : (l.at == n) ≡ true). rw e (all_lost ls n (on_rank ms l.rank lost_rank) (cut_off l.rank links) (flagged bs l.rank) (after s st (r.Lose l.rank)) rest (one_lost ms links bs st l.rank (All-head (λ (l : Loss). l.rank < ranks s) l ls there) h)))
      (λ (e : (l.at == n) ≡ false). rw e (all_lost ls n ms links bs st rest h))
      (cases_Bool (l.at == n))

pub falls_legal : (s : Setting) (ls : List Loss) (n : ℕ) (st : State) → All (λ (l : Loss). l.rank < ranks s) ls → IsLegalFrom s st (falls ls n)
falls_legal s [] n st there = tt
falls_legal s (l ∷ ls) n st there =
    let rest = All-tail (λ (l : Loss). l.rank < ranks s) l ls there in
    ⊎_elim
    (λ (e : (l.at == n) ≡ true). rw e (lt-ltb l.rank (ranks s) (All-head (λ (l : Loss). l.rank < ranks s) l ls there), falls_legal s ls n (after s st (r.Lose l.rank)) rest))
    (λ (e : (l.at == n) ≡ false). rw e (falls_legal s ls n st rest))
    (cases_Bool (l.at == n))

falls_mark : (s : Setting) (ls : List Loss) (n : ℕ) (st : State) → (replay s st (falls ls n)).mark ≡ st.mark
falls_mark s [] n st = refl
falls_mark s (l ∷ ls) n st =
    ⊎_elim
    (λ (e : (l.at == n) ≡ true). rw e (falls_mark s ls n (after s st (r.Lose l.rank))))
    (λ (e : (l.at == n) ≡ false). rw e (falls_mark s ls n st))
    (cases_Bool (l.at == n))

-- ---- the world
pub IsReplay-fallen : (p : ℕ) (w : WorldView) (losses : List Loss) (x : Machine Rank Tile) (mark : Mark) (bs : List Bool) → is_due w ≡ true → IsReplay p w losses x mark bs
    → IsReplay p (fallen w) losses (machine (mems_after losses (numbered w.journal) x.mems) (links_after losses (numbered w.journal) x.links)) mark (flags_after losses (numbered w.journal) bs)
IsReplay-fallen p w losses x mark bs due h =
    let s : Setting = setting_in w in
    let n = numbered w.journal in
    let st = replay-append s (opened s) w.journal (falls s.losses n) in
    let there = subst (λ (ls : List Loss). All (λ (l : Loss). l.rank < ranks s) ls) (sym h.losses_are) h.sound.of_ranks in
    let after_them = all_lost s p h.table losses n x.mems x.links bs (state_of w) there (record { stands = h.stands; residues = h.residues; flags = h.flags }) in
    let is : replay s (state_of w) (falls losses n) ≡ state_of (fallen w) = ap (λ (ls : List Loss). replay s (state_of w) (falls ls n)) h.losses_are ∙ sym st in
    record {
      sound = h.sound;
      losses_are = h.losses_are;
      table = h.table;
      lines = h.lines;
      legal = IsLegalFrom-append s (opened s) w.journal (falls s.losses n) h.legal (falls_legal s s.losses n (state_of w) h.sound.of_ranks);
      in_place = in_place-falls s w.journal due h.in_place;
      stands = subst (Stands s h.table (machine (mems_after losses n x.mems) (links_after losses n x.links))) is after_them.stands;
      residues = after_them.residues;
      mark_is = h.mark_is ∙ sym (ap (λ (z : State). z.mark) st ∙ falls_mark s s.losses n (state_of w));
      flags = subst (λ (z : State). AreFlags s z (flags_after losses n bs)) is after_them.flags;
    }

-- the keeper's losses are the script's
pub fallen_view : (script : List (Option Command)) (files : Matrices) (k : Log) → k.losses ≡ (setting_of script files).losses → view_of script files (with_falls_next k) ≡ fallen (view_of script files k)
fallen_view script files k e = λ i. record { script = script; files = files; journal = k.journal ++ falls (e i) (numbered k.journal); room = k.room }
