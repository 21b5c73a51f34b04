-- What the crates above share: facts about the rules that more than one proof rests on. Nothing here is to be believed: all of it is proved.
pub mod Search
pub mod Fine
pub mod Sums
pub mod FreeSeat
pub mod Changed
pub mod Becomes
pub mod Begin
pub mod Released
