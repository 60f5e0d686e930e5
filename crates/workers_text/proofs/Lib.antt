mod Orders
pub mod Shown
pub mod LineByLine
pub mod Places
pub mod Sessions
pub mod Taking
pub mod TooLong
pub mod WhatWasRead
