mod IndexSums
mod SurdTotals
mod ShareLaws
mod Passes
