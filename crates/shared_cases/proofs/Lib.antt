mod Sent
mod Numbers
