pub mod KdfLaws
