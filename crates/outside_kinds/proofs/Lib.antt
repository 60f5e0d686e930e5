mod DiskLaws
mod Replay
mod StopLaws
mod StopRows
