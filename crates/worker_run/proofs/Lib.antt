mod WorkLaws
mod MergeLaws
mod RunLaws
mod SeatLaws
mod Sent
