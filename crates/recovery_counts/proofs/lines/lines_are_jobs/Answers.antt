use Rattle.recovery_counts.proofs.TableJobs.{lines-jobs}
use Rattle.recovery_counts.proofs.lines.lines_are_jobs.Goals as goal

pub returns : goal.returns
returns c = lines-jobs
