pub mod TermMoments
