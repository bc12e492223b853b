pub mod Boot
