-- A world of the same run, with more records.
use Rattle.std.proofs.Common.{◌≡◌, ◌≤◌, [], ◌++◌, refl, sym, ap, ◌∙◌, arith}
use Rattle.std.proofs.lemmas.List.{append-nil, append_assoc}
use Rattle.rank_machine.specs.Setting.{Setting}
use Rattle.run_laws.specs.Due.{ahead}
use Rattle.run_laws.proofs.Losing.{ahead-later}
use Rattle.block_world.specs.World.{WorldView, setting_in}
use Rattle.world_heal.specs.Ways.{IsLater, IsUnderWay}

pub later-same : (w : WorldView) → IsLater w w
later-same w = record { script = refl; files = refl; added = []; journal = sym (append-nil w.journal) }

pub later-then : (a b c : WorldView) → IsLater a b → IsLater b c → IsLater a c
later-then a b c h k = record {
  script = k.script ∙ h.script;
  files = k.files ∙ h.files;
  added = h.added ++ k.added;
  journal = k.journal ∙ (ap (λ xs. xs ++ k.added) h.journal ∙ append_assoc a.journal h.added k.added);
}

pub later-way : (a b : WorldView) → IsUnderWay a b → IsLater a b
later-way a b u = record { script = u.script; files = u.files; added = u.added; journal = u.journal }

pub setting-later : (a b : WorldView) → IsLater a b → setting_in b ≡ setting_in a
setting-later a b h = λ i. setting_in (record b { script = h.script i; files = h.files i })

pub fewer-later : (s : Setting) (a b : WorldView) → IsLater a b → ahead s b.journal ≤ ahead s a.journal
fewer-later s a b h = omega (arith, ap (λ j. ahead s j) h.journal, ahead-later s a.journal h.added)
