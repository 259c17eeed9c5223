pub mod Contents
pub mod Follow
pub mod Group
pub mod Lobby
pub mod Look
pub mod Named
pub mod Service
pub mod Tally
