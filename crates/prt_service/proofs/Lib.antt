mod Expected
mod Following
mod Follows
mod Groups
mod Listed
mod Receipts
mod Refusals
mod SameCommand
