-- Only ranks of the run are ever live, and messages are on their way only among them.
use Rattle.std.proofs.Common.{◌≡◌, ℕ, ◌&&◌, ◌||◌, ◌==◌, true, false, nat_lt, List, [], ◌∷◌, drop, refl, sym, ◌∙◌, ap, inl, inr}
use Rattle.std.proofs.lemmas.Bool.{cases_Bool, eqb-true, and_parts, and_from, both_ways}
use Rattle.rank_machine.specs.declared.slot.Tile.{Tile}
use Rattle.rank_machine.specs.declared.record.Rec.{Rec}
use Rattle.rank_machine.specs.declared.record.Rec.TheVariants as r
use Rattle.rank_machine.specs.Setting.{Setting, ranks}
use Rattle.rank_machine.specs.State.{State, at_link, opened}
use Rattle.rank_machine.specs.Effect.{after, replay, state_after}
use Rattle.rank_machine.specs.Legal.{IsLegalRec, IsLegalFrom, IsLegal}

-- no rank beyond those of the run is live, and no message is on its way from or to one
pub record IsInside (s : Setting) (st : State) : Type 0 where
  pub live : (rank : ℕ) → nat_lt rank (ranks s) ≡ false → st.live rank ≡ false
  pub links : (from to : ℕ) → nat_lt from (ranks s) && nat_lt to (ranks s) ≡ false → st.links from to ≡ []

pub opened-inside : (s : Setting) → IsInside s (opened s)
opened-inside s = record { live = λ rank h. h; links = λ from to h. refl }

drop_none : (ts : List Tile) → ts ≡ [] → drop 1 ts ≡ []
drop_none [] e = refl
drop_none (t ∷ ts) e = absurd (cc)

module _ (s : Setting) (st : State) (inside : IsInside s st) where
  there : (rank : ℕ) → st.live rank ≡ true → nat_lt rank (ranks s) ≡ true
  there rank live = elim (cases_Bool (nat_lt rank (ranks s))) [ inl within ↦ within | inr beyond ↦ absurd (both_ways (st.live rank) (inside.live rank beyond) live) ]

  sent : (from to : ℕ) (ts : List Tile) → st.live from ≡ true → nat_lt to (ranks s) ≡ true → (a b : ℕ) → nat_lt a (ranks s) && nat_lt b (ranks s) ≡ false → at_link st.links from to ts a b ≡ []
  sent from to ts live to_in a b h =
      elim (cases_Bool ((a == from) && (b == to))) [
        | inl here ↦
            (let p = and_parts (a == from) (b == to) here in
            let a_in : nat_lt a (ranks s) ≡ true = ap (λ k. nat_lt k (ranks s)) (eqb-true a from p.0) ∙ there from live in
            let b_in : nat_lt b (ranks s) ≡ true = ap (λ k. nat_lt k (ranks s)) (eqb-true b to p.1) ∙ to_in in
            absurd (both_ways (nat_lt a (ranks s) && nat_lt b (ranks s)) h (and_from (nat_lt a (ranks s)) (nat_lt b (ranks s)) a_in b_in)))
        | inr other ↦ rw other (inside.links a b h)
      ]

  received : (from to : ℕ) (a b : ℕ) → nat_lt a (ranks s) && nat_lt b (ranks s) ≡ false → at_link st.links from to (drop 1 (st.links from to)) a b ≡ []
  received from to a b h =
      elim (cases_Bool ((a == from) && (b == to))) [
        | inl here ↦
            (let p = and_parts (a == from) (b == to) here in
            let none : st.links from to ≡ [] = sym (ap (λ k. st.links k to) (eqb-true a from p.0)) ∙ (sym (ap (st.links a) (eqb-true b to p.1)) ∙ inside.links a b h) in
            rw here (drop_none (st.links from to) none))
        | inr other ↦ rw other (inside.links a b h)
      ]

  pub after-inside : (x : Rec) → IsLegalRec s st x → IsInside s (after s st x)
  after-inside (r.Feed rank slot) legal = record { live = inside.live; links = inside.links }
  after-inside (r.Kernel rank kernel) legal = record { live = inside.live; links = inside.links }
  after-inside (r.Send from to x) legal = record { live = inside.live; links = sent from to _ legal.live legal.there }
  after-inside (r.Recv to from x) legal = record { live = inside.live; links = received from to }
  after-inside (r.Save rank slot) legal = record { live = inside.live; links = inside.links }
  after-inside (r.Take rank slot) legal = record { live = inside.live; links = inside.links }
  after-inside r.Restore legal = record { live = inside.live; links = λ a b h. refl }
  after-inside (r.Spawn rank) legal =
      record {
        live = λ a h.
            elim (cases_Bool (a == rank)) [
              | inl here ↦ absurd (both_ways (nat_lt a (ranks s)) h (ap (λ k. nat_lt k (ranks s)) (eqb-true a rank here) ∙ legal.there))
              | inr other ↦ rw other (inside.live a h)
            ];
        links = inside.links;
      }
  after-inside (r.Commit mark healed) legal = record { live = inside.live; links = inside.links }
  after-inside (r.Lose rank) legal =
      record {
        live = λ a h. elim (cases_Bool (a == rank)) [ inl here ↦ rw here refl | inr other ↦ rw other (inside.live a h) ];
        links = λ a b h. elim (cases_Bool ((a == rank) || (b == rank))) [ inl here ↦ rw here refl | inr other ↦ rw other (inside.links a b h) ];
      }

inside_from : (s : Setting) (st : State) (xs : List Rec) → IsInside s st → IsLegalFrom s st xs → IsInside s (replay s st xs)
inside_from s st [] inside legal = inside
inside_from s st (x ∷ xs) inside legal = inside_from s (after s st x) xs (after-inside s st inside x legal.0) legal.1

pub journal-inside : (s : Setting) (journal : List Rec) → IsLegal s journal → IsInside s (state_after s journal)
journal-inside s journal legal = inside_from s (opened s) journal (opened-inside s) legal

pub no_others-live : (s : Setting) (journal : List Rec) (rank : ℕ) → IsLegal s journal → nat_lt rank (ranks s) ≡ false → (state_after s journal).live rank ≡ false
no_others-live s journal rank legal h = (journal-inside s journal legal).live rank h
