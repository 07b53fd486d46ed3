mod Standing
mod Totals
mod LaggedSums
mod Made
mod Best
mod WholeMatches
mod WholePressures
mod Granting
