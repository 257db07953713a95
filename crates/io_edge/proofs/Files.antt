-- The files of a shelf in memory.
use Rattle.std.proofs.Common.{◌≡◌, ℕ, Bool, true, false, cond, List, refl}
use Rattle.std.specs.Prelude.{Option, Some, String, Vec}
use Rattle.std.specs.Option.{option_map}
use Rattle.std.specs.Ordering.{nat_cmp}
use Rattle.std.specs.Cmp.Lexicographic.{slice_cmp}
use Rattle.std.specs.Str.{bytes_eq}
use Rattle.std.specs.String.{string_bytes, string_cmp}
use Rattle.std.specs.Map.{update}
use Rattle.std.specs.BTreeMap.{BTreeMap, UpdatesBy, get_by_text}
use Rattle.std.specs.declared.alloc.Global.{Global}
use Rattle.std.proofs.lemmas.Map.Text.{btree_map_updates_text}
use Rattle.io_edge.specs.MemShelf.{files_of}

-- a file that is put into the map is found under its name, and the others as before
pub files_of-updates : (m n : BTreeMap (String Global) (Vec ℕ Global)) (name : List ℕ) (v : Vec ℕ Global) →
    UpdatesBy string_cmp (λ k. slice_cmp nat_cmp name (string_bytes k)) m n (Some v) → files_of n ≡ update bytes_eq (files_of m) name (Some v.items)
files_of-updates m n name v h = λ i q. by_name q i
  where
    by_test : (b : Bool) (o : Option (Vec ℕ Global)) → option_map (λ (w : Vec ℕ Global). w.items) (cond b (Some v) o) ≡ cond b (Some v.items) (option_map (λ (w : Vec ℕ Global). w.items) o)
    by_test true o = refl
    by_test false o = refl

    by_name : (q : List ℕ) → files_of n q ≡ update bytes_eq (files_of m) name (Some v.items) q
    by_name q = rw (btree_map_updates_text name m n (Some v) h q) (by_test (bytes_eq name q) (get_by_text m q))
