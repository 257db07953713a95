-- The state counts the ranks that were spawned.
use Rattle.std.proofs.Common.{◌≡◌, ◌+◌, ◌≤◌, ◌<◌, ℕ, zero, suc, true, false, List, [], ◌∷◌, length, drop, get_or, refl, ◌∙◌, arith}
use Rattle.std.specs.List.{filter}
use Rattle.rank_machine.specs.declared.record.Rec.{Rec}
use Rattle.rank_machine.specs.declared.record.Rec.TheVariants as r
use Rattle.rank_machine.specs.Setting.{Setting}
use Rattle.rank_machine.specs.State.{State, opened}
use Rattle.rank_machine.specs.Effect.{after, replay, state_after}
use Rattle.run_laws.specs.Due.{numbered}
use Rattle.run_laws.specs.Spares.{is_spawn, spawns}

spawned_from : (s : Setting) (st : State) (xs : List Rec) → (replay s st xs).spawned ≡ st.spawned + spawns xs
spawned_from s st [] = omega arith
spawned_from s st (r.Feed a b ∷ xs) = spawned_from s (after s st (r.Feed a b)) xs
spawned_from s st (r.Kernel a b ∷ xs) = spawned_from s (after s st (r.Kernel a b)) xs
spawned_from s st (r.Send a b c ∷ xs) = spawned_from s (after s st (r.Send a b c)) xs
spawned_from s st (r.Recv a b c ∷ xs) = spawned_from s (after s st (r.Recv a b c)) xs
spawned_from s st (r.Save a b ∷ xs) = spawned_from s (after s st (r.Save a b)) xs
spawned_from s st (r.Take a b ∷ xs) = spawned_from s (after s st (r.Take a b)) xs
spawned_from s st (r.Restore ∷ xs) = spawned_from s (after s st r.Restore) xs
spawned_from s st (r.Spawn a ∷ xs) = omega (arith, spawned_from s (after s st (r.Spawn a)) xs)
spawned_from s st (r.Commit m h ∷ xs) = spawned_from s (after s st (r.Commit m h)) xs
spawned_from s st (r.Lose a ∷ xs) = spawned_from s (after s st (r.Lose a)) xs

-- a record that spawns a rank has a number
pub spawns-numbered : (xs : List Rec) → spawns xs ≤ numbered xs
spawns-numbered [] = omega arith
spawns-numbered (r.Feed a b ∷ xs) = omega (arith, spawns-numbered xs)
spawns-numbered (r.Kernel a b ∷ xs) = omega (arith, spawns-numbered xs)
spawns-numbered (r.Send a b c ∷ xs) = omega (arith, spawns-numbered xs)
spawns-numbered (r.Recv a b c ∷ xs) = omega (arith, spawns-numbered xs)
spawns-numbered (r.Save a b ∷ xs) = omega (arith, spawns-numbered xs)
spawns-numbered (r.Take a b ∷ xs) = omega (arith, spawns-numbered xs)
spawns-numbered (r.Restore ∷ xs) = omega (arith, spawns-numbered xs)
spawns-numbered (r.Spawn a ∷ xs) = omega (arith, spawns-numbered xs)
spawns-numbered (r.Commit m h ∷ xs) = omega (arith, spawns-numbered xs)
spawns-numbered (r.Lose a ∷ xs) = spawns-numbered xs

-- one more is left where a record spawns a rank
pub spawns-at : (xs : List Rec) (i : ℕ) (none : Rec) (rank : ℕ) → i < length xs → get_or xs i none ≡ r.Spawn rank → spawns (drop i xs) ≡ suc (spawns (drop (suc i) xs))
spawns-at [] i none rank lt e = absurd (omega arith)
spawns-at (x ∷ xs) zero none rank lt e = let here : x ≡ r.Spawn rank = e in rw here refl
spawns-at (x ∷ xs) (suc i) none rank lt e = spawns-at xs i none rank (omega arith) e

pub spawned-is : (s : Setting) (journal : List Rec) → (state_after s journal).spawned ≡ spawns journal
spawned-is s journal = let e : (replay s (opened s) journal).spawned ≡ 0 + spawns journal = spawned_from s (opened s) journal in omega (arith, e)
