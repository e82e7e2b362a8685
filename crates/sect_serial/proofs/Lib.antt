mod RestLemmas
mod SoundLemmas
mod RunLemmas
mod JudgeLemmas
mod FinishLemmas
mod RefusalLemmas
mod Keys
mod Trimmed
mod Comparing
mod TellLemmas
mod Shortlex
mod AheadLemmas
mod StateLemmas
mod EndLemmas
mod OneList
pub mod shared
