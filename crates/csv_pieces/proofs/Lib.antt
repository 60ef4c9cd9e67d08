mod Parts
mod Takings
mod Texts
