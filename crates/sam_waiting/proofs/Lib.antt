pub mod OneMachineLaws
