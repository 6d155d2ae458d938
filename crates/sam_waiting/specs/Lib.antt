pub mod OneMachine
