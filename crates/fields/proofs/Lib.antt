pub mod Piecelaws
