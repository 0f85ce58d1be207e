-- The theorems on followed runs, their histories and their logs.
pub mod StartsAccepted
pub mod Copies
pub mod Histories
pub mod Logs
pub mod EntriesUnread
pub mod LogsInTurn
pub mod Callers
