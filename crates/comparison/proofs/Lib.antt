mod Copying
mod Comparing
