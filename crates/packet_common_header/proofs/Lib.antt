pub mod CommonHeaderLaws
