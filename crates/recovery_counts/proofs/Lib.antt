pub mod StripCounts
pub mod LineCounts
pub mod Judged
pub mod InTime
pub mod TableJobs
