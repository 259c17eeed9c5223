mod Alone
mod Runs
mod Served
