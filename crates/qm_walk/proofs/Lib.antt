mod Noting
mod Standing
