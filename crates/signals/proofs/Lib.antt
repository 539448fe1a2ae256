pub mod BestSignals
