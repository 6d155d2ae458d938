pub mod ClientEnds
