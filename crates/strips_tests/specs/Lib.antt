pub mod FactoredScript
