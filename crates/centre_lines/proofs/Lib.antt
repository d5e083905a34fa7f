pub mod ReachLemmas
pub mod OutsideLinkLemmas
pub mod OutsideCellLemmas
pub mod OutsideAreaLemmas
pub mod NewKeyLemmas
pub mod OutsideWarningLemmas
pub mod OutsideLemmas
pub mod NamingLemmas
pub mod CoverageLemmas
pub mod FollowLemmas
pub mod WasLemmas
pub mod ThenLemmas
pub mod TellLemmas
pub mod DownLemmas
pub mod JoinLemmas
pub mod StayLemmas
pub mod BlankLineLemmas
pub mod WalkLemmas
mod PassedLemmas
pub mod BeforeLemmas
pub mod ForgottenLemmas
mod IndicatedLemmas
pub mod FinishLemmas
pub mod SpotReachLemmas
pub mod ReachedWarningLemmas
pub mod PlainLemmas
pub mod NearLemmas
pub mod CoveredLemmas
pub mod MakingLemmas
mod ListedLemmas
pub mod UnreachedLemmas
pub mod NewLineLemmas
