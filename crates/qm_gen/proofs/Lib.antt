mod LineLemmas
mod DrawnLemmas
mod LineSigns
mod TextSigns
mod PartSigns
mod Deeds
mod MadeSigns
mod Growth
mod Expanded
mod RanksExpanded
mod Walks
mod Matches
mod Sound
mod MadeMay
mod MadeTapes
mod MadeRuns
mod MadeLength
pub mod MadeReads
