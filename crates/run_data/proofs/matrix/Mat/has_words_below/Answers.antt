use Rattle.run_data.proofs.PartLaws.{AreWords-list}
use Rattle.run_data.proofs.matrix.Mat.has_words_below.Goals as goal

pub returns : goal.returns
returns c =
    let same = AreWords-list c.args.limit c.args.self.now c.words.result.now c.words.ensures.shaped c.words.ensures.size c.words.ensures.words c.requires in
    (λ h. same.0 (c.are_below.ensures.0 h), λ h. c.are_below.ensures.1 (same.1 h))
