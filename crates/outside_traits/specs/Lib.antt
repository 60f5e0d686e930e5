pub mod Bytes
pub mod CrashImages
pub mod DiskPairs
pub mod Disks
pub mod Faults
pub mod Moments
