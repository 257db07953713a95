use Rattle.recovery_counts.proofs.TableJobs.{as-long}
use Rattle.recovery_counts.proofs.lines.a_table_has_the_jobs.Goals as goal

pub returns : goal.returns
returns c = as-long
