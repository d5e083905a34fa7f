pub mod CrashLemmas
pub mod EndLemmas
pub mod FileLemmas
pub mod FirstLemmas
pub mod LineLemmas
pub mod LoadingLemmas
pub mod ReadingLemmas
pub mod WritingLemmas
